use Rattle.std.proofs.Common.{◌≡◌, ◌∙◌, ℕ, ◌+◌, ◌≤◌, min, arith}
use Rattle.sop_vault.proofs.WeightLemmas.{most, light}
use Rattle.sop_vault.proofs.weight.view_weight.Goals as goal

-- added up two by two, where all together is no more than the most
added : (a b c d x y z : ℕ) → z ≡ min (x + y) most → x ≡ min (min a most + min b most) most → y ≡ min (min c most + min d most) most → a + b + c + d ≤ most → z ≡ a + b + c + d
added a b c d x y z e f g few = omega arith

pub returns : goal.returns
returns g c =
    let few = light (g.V.GeoView.geo c.args.view.now) c.requires.readable c.requires.values in
    let d = c.class_weight.ensures in let p = c.class_weight-2.ensures in let o = c.class_weight-3.ensures in let v = c.class_weight-4.ensures in
    added _ _ _ _ c.saturating_add-front.result c.saturating_add-back.result c.saturating_add.result c.saturating_add.ensures
    (c.saturating_add-front.ensures ∙ (λ j. min (d j + p j) most)) (c.saturating_add-back.ensures ∙ (λ j. min (o j + v j) most)) few

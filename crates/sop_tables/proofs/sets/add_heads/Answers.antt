use Rattle.std.proofs.Common.{◌++◌, ◌∷◌, [], not, filter, take, List, ℕ, ◌∙◌, ap, sym, append_assoc}
use Rattle.std.specs.List.{list_any}
use Rattle.std.specs.Str.{bytes_eq}
use Rattle.sop_model.specs.declared.geo.Head.{Head}
use Rattle.sop_tables.proofs.NamedLemmas.{filter_next, filter_skipped}
use Rattle.sop_tables.proofs.sets.add_heads.Goals as goal
use Rattle.sop_tables.proofs.sets.add_heads.Goals.{then-not-has_head+in_ok-copy+in_ok-add, else-not-has_head}

pub loop-head-preserved : goal.loop-head-preserved
loop-head-preserved c =
    let same = ap (λ (name : List ℕ). list_any (λ (k : Head). bytes_eq k.name name) c.args.first.now) (sym c.as_str.ensures) ∙ sym c.has_head.ensures in
    let test = (λ (h : Head). not (list_any (λ k. bytes_eq k.name h.name) c.args.first.now)) in
    elim c.if-not-has_head.branch [
      | then-not-has_head+in_ok-copy+in_ok-add w ↦
          w.into-is ∙ w.in_ok-add.ensures.ok ∙ (λ j. c.loop-head.invariant j ++ w.in_ok-copy.ensures j ∷ []) ∙ append_assoc c.args.into.now (filter test (take c.loop-head.head-index c.args.more.now)) (c.head-item.result ∷ [])
          ∙ ap (λ more. c.args.into.now ++ more) (sym (filter_next test c.args.more.now c.loop-head.head-index c.head-item.result c.loop-head-test.true c.head-item.is (ap not (same ∙ w.if-not-has_head.true))))
      | else-not-has_head w ↦
          w.into-is ∙ c.loop-head.invariant
          ∙ ap (λ more. c.args.into.now ++ more) (sym (filter_skipped test c.args.more.now c.loop-head.head-index c.head-item.result c.loop-head-test.true c.head-item.is (ap not (same ∙ w.if-not-has_head.false))))
    ]

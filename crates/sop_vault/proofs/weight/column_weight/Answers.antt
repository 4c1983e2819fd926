use Rattle.std.proofs.Common.{◌≡◌, ◌∙◌, ℕ, ◌*◌, min, sum_by, ap, inl, inr, arith}
use Rattle.std.specs.Prelude.{◌⊎◌, Some, slice_get}
use Rattle.std.specs.Option.{option_map}
use Rattle.sop_model.specs.declared.class.Class.{Class}
use Rattle.sop_model.specs.declared.geo.Geo.{Geo}
use Rattle.sop_model.specs.declared.value.Kind.{Kind}
use Rattle.sop_model.specs.declared.value.Kind.TheVariants as kind
use Rattle.sop_model.specs.Values.{weight_of}
use Rattle.sop_model.specs.Geometry.{heads_of, count_of, IsReadable}
use Rattle.sop_model.specs.Rows.{column_of}
use Rattle.sop_vault.proofs.WeightLemmas.{most, int_weight, real_weight, vector_weight, even_column}
use Rattle.sop_vault.proofs.weight.column_weight.Goals as goal

numbers : (g : Geo) (class : Class) (head : ℕ) (k : Kind) → IsReadable g → option_map (λ h. h.kind) (slice_get (heads_of g class).heads head) ≡ Some k → (k ≡ kind.Int) ⊎ (k ≡ kind.Real) → count_of g class * 1 ≡ min (sum_by weight_of (column_of g class head)) most
numbers g class head k r at (inl is) = even_column g class head kind.Int 1 r (at ∙ ap Some is) int_weight (omega arith)
numbers g class head k r at (inr is) = even_column g class head kind.Real 1 r (at ∙ ap Some is) real_weight (omega arith)

pub returns-in-Int : goal.returns-in-Int
returns-in-Int g c =
    let geo = g.V.GeoView.geo c.args.view.now in
    let same = numbers geo c.args.class c.args.head c.head_kind.result c.requires.readable c.head_kind.ensures c.in-Int.is in
    let count = c.count.ensures in
    let wide = c.from.ensures in
    let one : c.from.result ≡ count_of geo c.args.class * 1 = omega arith in
    one ∙ same

pub returns-in-Vector : goal.returns-in-Vector
returns-in-Vector g c =
    let geo = g.V.GeoView.geo c.args.view.now in
    let same = even_column geo c.args.class c.args.head kind.Vector 3 c.requires.readable (c.head_kind.ensures ∙ ap Some c.in-Vector.is) vector_weight (omega arith) in
    let count = c.count-in-Vector.ensures in
    let wide = c.from-in-Vector.ensures in
    let three : 3 * c.from-in-Vector.result ≡ count_of geo c.args.class * 3 = omega arith in
    three ∙ same

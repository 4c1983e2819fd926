use Rattle.std.proofs.Common.{sym, ap, ◌∙◌, ◌<◌, length}
use Rattle.std.specs.Prelude.{slice_get}
use Rattle.std.specs.Option.{option_and_then}
use Rattle.sop_model.specs.Rows.{changed_at}
use Rattle.sop_model.specs.Vertices.{size_of, ends_of, with_corner}
use Rattle.sop_model.proofs.PrimitivesLemmas.{found, in_list, set-with_corner, ends_of-with_corner}
use Rattle.sop_model.proofs.primitives.PrimList.replace_corner.Goals as goal

pub invariant_of-self : goal.invariant_of-self
invariant_of-self c =
    let prims = c.self.inside.prims.items in
    let lt : c.args.i < length prims = rw c.self.view_is (in_list (λ p. c.args.place < size_of p) c.args.self.now c.args.i c.requires) in
    let at = found prims c.args.i c.index_mut-prim.result.now lt c.index_mut-prim.ensures.value in
    let put = set-with_corner prims c.args.i c.args.place c.index_mut-prim.result.now c.args.corner c.replace.new.self at c.replace.ensures.items in
    c.self.invariant ∙ sym (ends_of-with_corner c.args.place c.args.corner prims c.args.i) ∙ ap (ends_of 0) (sym put)

pub returns-clause-prims : goal.returns-clause-prims
returns-clause-prims c =
    let prims = c.self.inside.prims.items in
    let lt : c.args.i < length prims = rw c.self.view_is (in_list (λ p. c.args.place < size_of p) c.args.self.now c.args.i c.requires) in
    let at = found prims c.args.i c.index_mut-prim.result.now lt c.index_mut-prim.ensures.value in
    set-with_corner prims c.args.i c.args.place c.index_mut-prim.result.now c.args.corner c.replace.new.self at c.replace.ensures.items
    ∙ ap (λ prims. changed_at (with_corner c.args.place c.args.corner) prims c.args.i) c.self.view_is

pub returns-clause-taken : goal.returns-clause-taken
returns-clause-taken c =
    let prims = c.self.inside.prims.items in
    let lt : c.args.i < length prims = rw c.self.view_is (in_list (λ p. c.args.place < size_of p) c.args.self.now c.args.i c.requires) in
    let at = found prims c.args.i c.index_mut-prim.result.now lt c.index_mut-prim.ensures.value in
    rw (← c.self.view_is) (ap (option_and_then (λ p. slice_get p.corners c.args.place)) at ∙ c.replace.ensures.taken)

use Rattle.std.proofs.Common.{◌∙◌, ◌++◌, map, ap, sym, arith, length}
use Rattle.std.specs.Prelude.{min}
use Rattle.sop_shape.proofs.AddLemmas.{added_below, added_many, added_counted, added_within, has-vertices_added, is-vertices_added, rows-vertices_added}
use Rattle.sop_shape.proofs.shape.Shape.with_vertices.Goals as goal

pub group-requires-clause-below : goal.group-requires-clause-below
group-requires-clause-below c = added_below c.args.self.now c.known.ensures c.args.adds.now c.as_slice.result.now c.prims.result (c.as_slice.ensures.value ∙ c.in_ok-push_adds.ensures.prims ∙ ap (λ xs. xs ++ map (λ a. a.0) c.args.adds.now) (c.in_ok-keys.ensures c.known.ensures.geo c.known.ensures.has)) c.prims.ensures.long c.requires.prims

pub group-requires-clause-counted : goal.group-requires-clause-counted
group-requires-clause-counted c = added_counted c.args.self.now c.known.ensures c.args.adds.now c.as_slice.result.now c.prims.result (c.as_slice.ensures.value ∙ c.in_ok-push_adds.ensures.prims ∙ ap (λ xs. xs ++ map (λ a. a.0) c.args.adds.now) (c.in_ok-keys.ensures c.known.ensures.geo c.known.ensures.has)) c.prims.ensures.long c.requires.prims

pub group-requires-clause-few : goal.group-requires-clause-few
group-requires-clause-few c =
    let many = added_many c.args.self.now c.known.ensures c.args.adds.now c.as_slice.result.now c.prims.result (c.as_slice.ensures.value ∙ c.in_ok-push_adds.ensures.prims ∙ ap (λ xs. xs ++ map (λ a. a.0) c.args.adds.now) (c.in_ok-keys.ensures c.known.ensures.geo c.known.ensures.has)) c.prims.ensures.long c.requires.prims in
    omega (arith, c.requires.vertices)

pub pick-requires : goal.pick-requires
pick-requires c =
    added_within c.args.self.now c.known.ensures c.args.adds.now c.as_slice.result.now c.prims.result (c.as_slice.ensures.value ∙ c.in_ok-push_adds.ensures.prims ∙ ap (λ xs. xs ++ map (λ a. a.0) c.args.adds.now) (c.in_ok-keys.ensures c.known.ensures.geo c.known.ensures.has)) c.prims.ensures.long c.requires.prims
    c.as_slice-3.result.now c.as_slice-2.result.now (c.as_slice-3.ensures.value ∙ c.in_ok-groups.ensures.order)
    (c.as_slice-2.ensures.value ∙ c.in_ok-push_adds.ensures.points ∙ ap (λ xs. xs ++ map (λ a. a.1) c.args.adds.now) (c.in_ok-points.ensures.items ∙ c.refers.ensures))

pub from_lists-requires : goal.from_lists-requires
from_lists-requires c =
    let many = added_many c.args.self.now c.known.ensures c.args.adds.now c.as_slice.result.now c.prims.result (c.as_slice.ensures.value ∙ c.in_ok-push_adds.ensures.prims ∙ ap (λ xs. xs ++ map (λ a. a.0) c.args.adds.now) (c.in_ok-keys.ensures c.known.ensures.geo c.known.ensures.has)) c.prims.ensures.long c.requires.prims in
    let counted = added_counted c.args.self.now c.known.ensures c.args.adds.now c.as_slice.result.now c.prims.result (c.as_slice.ensures.value ∙ c.in_ok-push_adds.ensures.prims ∙ ap (λ xs. xs ++ map (λ a. a.0) c.args.adds.now) (c.in_ok-keys.ensures c.known.ensures.geo c.known.ensures.has)) c.prims.ensures.long c.requires.prims in
    is-vertices_added c.args.self.now c.args.adds.now c.in_ok-closed.closed.items c.in_ok-groups.groups.ends.items c.in_ok-refers.refers.items c.as_slice.result.now c.as_slice-3.result.now c.as_slice-2.result.now c.prims.result
    (c.in_ok-closed.ensures.items ∙ c.closed_flags.ensures) c.prims.ensures.long c.in_ok-groups.ensures.ends (c.as_slice-3.ensures.value ∙ c.in_ok-groups.ensures.order)
    (c.as_slice-2.ensures.value ∙ c.in_ok-push_adds.ensures.points ∙ ap (λ xs. xs ++ map (λ a. a.1) c.args.adds.now) (c.in_ok-points.ensures.items ∙ c.refers.ensures))
    (c.in_ok-refers.ensures 0)
    c.known.ensures (c.as_slice.ensures.value ∙ c.in_ok-push_adds.ensures.prims ∙ ap (λ xs. xs ++ map (λ a. a.0) c.args.adds.now) (c.in_ok-keys.ensures c.known.ensures.geo c.known.ensures.has)) (omega (arith, ap length (c.as_slice-3.ensures.value ∙ c.in_ok-groups.ensures.order))) c.requires.vertices

pub returns-clause-shape : goal.returns-clause-shape
returns-clause-shape c g has =
    has-vertices_added c.args.self.now c.args.adds.now c.in_ok-closed.closed.items c.in_ok-groups.groups.ends.items c.in_ok-refers.refers.items c.as_slice.result.now c.as_slice-3.result.now c.as_slice-2.result.now c.prims.result
    (c.in_ok-closed.ensures.items ∙ c.closed_flags.ensures) c.prims.ensures.long c.in_ok-groups.ensures.ends (c.as_slice-3.ensures.value ∙ c.in_ok-groups.ensures.order)
    (c.as_slice-2.ensures.value ∙ c.in_ok-push_adds.ensures.points ∙ ap (λ xs. xs ++ map (λ a. a.1) c.args.adds.now) (c.in_ok-points.ensures.items ∙ c.refers.ensures))
    (c.in_ok-refers.ensures 0)
    g has (c.as_slice.ensures.value ∙ c.in_ok-push_adds.ensures.prims ∙ ap (λ xs. xs ++ map (λ a. a.0) c.args.adds.now) (c.in_ok-keys.ensures g has))
    ∙ sym c.from_lists.ensures

pub returns-clause-rows : goal.returns-clause-rows
returns-clause-rows c g has =
    rows-vertices_added c.args.self.now c.args.adds.now c.in_ok-closed.closed.items c.in_ok-groups.groups.ends.items c.in_ok-refers.refers.items c.as_slice.result.now c.as_slice-3.result.now c.as_slice-2.result.now c.prims.result
    (c.in_ok-closed.ensures.items ∙ c.closed_flags.ensures) c.prims.ensures.long c.in_ok-groups.ensures.ends (c.as_slice-3.ensures.value ∙ c.in_ok-groups.ensures.order)
    (c.as_slice-2.ensures.value ∙ c.in_ok-push_adds.ensures.points ∙ ap (λ xs. xs ++ map (λ a. a.1) c.args.adds.now) (c.in_ok-points.ensures.items ∙ c.refers.ensures))
    (c.in_ok-refers.ensures 0)
    g has (c.as_slice.ensures.value ∙ c.in_ok-push_adds.ensures.prims ∙ ap (λ xs. xs ++ map (λ a. a.0) c.args.adds.now) (c.in_ok-keys.ensures g has))
    c.vertices.result c.lower.new.numbers.items c.vertices.ensures.long (c.lower.ensures ∙ ap (map (λ n. min n c.vertices.result)) (sym c.as_slice-3.ensures.value))

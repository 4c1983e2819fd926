use Rattle.std.proofs.Common.{◌∙◌, ◌++◌, ◌≡◌, ◌+◌, length, map, get_or, ap, subst, arith}
use Rattle.sop_shape.specs.Shapes.{IsShape}
use Rattle.sop_shape.proofs.ReadLemmas.{ends_within}
use Rattle.sop_shape.proofs.GrowLemmas.{has-appended, is-both}
use Rattle.sop_shape.proofs.shape.Shape.append.Goals as goal

pub push_moved-requires-clause-few : goal.push_moved-requires-clause-few
push_moved-requires-clause-few c k d lt =
    let s = c.args.self.now in
    let many : c.len.result ≡ length s.refers = omega (arith, c.len.ensures, c.reserve-2.ensures.len, c.self.inside.refers.ok.0, ap (λ s. length s.refers) c.self.view_is) in
    let end = ends_within c.args.other.now c.known.ensures k d (omega (arith, ap length c.ends-2.ensures)) in
    let room = c.requires.vertices in
    omega (arith, ap (λ es. get_or es k d) c.ends-2.ensures)

pub invariant_of-self-2 : goal.invariant_of-self-2
invariant_of-self-2 c =
    let s = c.args.self.now in
    let many : c.len.result ≡ length s.refers = omega (arith, c.len.ensures, c.reserve-2.ensures.len, c.self.inside.refers.ok.0, ap (λ s. length s.refers) c.self.view_is) in
    is-both c.args.points s c.args.other.now _ _ _
    (c.in_ok-extend_from_slice.ensures.items ∙ ap (λ xs. xs ++ c.closed_flags.result.now) (ap (λ s. s.closed) c.self.view_is) ∙ ap (λ xs. s.closed ++ xs) c.closed_flags.ensures)
    (c.push_moved.ensures ∙ ap (λ xs. xs ++ map (λ n. c.len.result + n) c.ends-2.result.now) (c.reserve.ensures.items ∙ ap (λ s. s.ends) c.self.view_is) ∙ ap (λ k. s.ends ++ map (λ n. k + n) c.ends-2.result.now) many ∙ ap (λ xs. s.ends ++ map (λ n. length s.refers + n) xs) c.ends-2.ensures)
    (c.push_moved-2.ensures ∙ ap (λ xs. xs ++ map (λ n. c.args.points + n) c.refers-2.result.now) (c.reserve-2.ensures.items ∙ ap (λ s. s.refers) c.self.view_is) ∙ ap (λ xs. s.refers ++ map (λ n. c.args.points + n) xs) c.refers-2.ensures)
    (subst IsShape c.self.view_is c.self.invariant) c.known.ensures c.requires.prims c.requires.vertices

pub returns-clause-ok : goal.returns-clause-ok
returns-clause-ok c =
    let s = c.args.self.now in
    let many : c.len.result ≡ length s.refers = omega (arith, c.len.ensures, c.reserve-2.ensures.len, c.self.inside.refers.ok.0, ap (λ s. length s.refers) c.self.view_is) in
    has-appended c.args.points s c.args.other.now _ _ _
    (c.in_ok-extend_from_slice.ensures.items ∙ ap (λ xs. xs ++ c.closed_flags.result.now) (ap (λ s. s.closed) c.self.view_is) ∙ ap (λ xs. s.closed ++ xs) c.closed_flags.ensures)
    (c.push_moved.ensures ∙ ap (λ xs. xs ++ map (λ n. c.len.result + n) c.ends-2.result.now) (c.reserve.ensures.items ∙ ap (λ s. s.ends) c.self.view_is) ∙ ap (λ k. s.ends ++ map (λ n. k + n) c.ends-2.result.now) many ∙ ap (λ xs. s.ends ++ map (λ n. length s.refers + n) xs) c.ends-2.ensures)
    (c.push_moved-2.ensures ∙ ap (λ xs. xs ++ map (λ n. c.args.points + n) c.refers-2.result.now) (c.reserve-2.ensures.items ∙ ap (λ s. s.refers) c.self.view_is) ∙ ap (λ xs. s.refers ++ map (λ n. c.args.points + n) xs) c.refers-2.ensures)

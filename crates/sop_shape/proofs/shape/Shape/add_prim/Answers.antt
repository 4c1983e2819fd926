use Rattle.std.proofs.Common.{◌∙◌, ◌++◌, ◌∷◌, [], ◌≡◌, ◌+◌, length, ap, subst, arith}
use Rattle.sop_shape.specs.Shapes.{IsShape}
use Rattle.sop_shape.proofs.GrowLemmas.{has-prim_added, is-prim_added}
use Rattle.sop_shape.proofs.shape.Shape.add_prim.Goals as goal

pub invariant_of-self-2 : goal.invariant_of-self-2
invariant_of-self-2 c =
    let s = c.args.self.now in
    let end : c.len.result ≡ length s.refers + length c.args.points.now = omega (arith, c.len.ensures, c.in_ok-extend_from_slice.ensures.len, c.self.inside.refers.ok.0, ap (λ s. length s.refers) c.self.view_is) in
    is-prim_added c.args.closed c.args.points.now s _ _ _
    (c.push_reserved-2.ensures.items ∙ ap (λ xs. xs ++ c.args.closed ∷ []) (c.reserve.ensures.items ∙ ap (λ s. s.closed) c.self.view_is))
    (c.push_reserved.ensures.items ∙ ap (λ n. c.reserve-2.new.self.items ++ n ∷ []) end ∙ ap (λ xs. xs ++ (length s.refers + length c.args.points.now) ∷ []) (c.reserve-2.ensures.items ∙ ap (λ s. s.ends) c.self.view_is))
    (c.in_ok-extend_from_slice.ensures.items ∙ ap (λ xs. xs ++ c.args.points.now) (ap (λ s. s.refers) c.self.view_is))
    (subst IsShape c.self.view_is c.self.invariant) c.requires.prims c.requires.vertices

pub returns-clause-ok : goal.returns-clause-ok
returns-clause-ok c g has =
    let s = c.args.self.now in
    let end : c.len.result ≡ length s.refers + length c.args.points.now = omega (arith, c.len.ensures, c.in_ok-extend_from_slice.ensures.len, c.self.inside.refers.ok.0, ap (λ s. length s.refers) c.self.view_is) in
    has-prim_added c.args.closed c.args.points.now s _ _ _
    (c.push_reserved-2.ensures.items ∙ ap (λ xs. xs ++ c.args.closed ∷ []) (c.reserve.ensures.items ∙ ap (λ s. s.closed) c.self.view_is))
    (c.push_reserved.ensures.items ∙ ap (λ n. c.reserve-2.new.self.items ++ n ∷ []) end ∙ ap (λ xs. xs ++ (length s.refers + length c.args.points.now) ∷ []) (c.reserve-2.ensures.items ∙ ap (λ s. s.ends) c.self.view_is))
    (c.in_ok-extend_from_slice.ensures.items ∙ ap (λ xs. xs ++ c.args.points.now) (ap (λ s. s.refers) c.self.view_is))
    g has

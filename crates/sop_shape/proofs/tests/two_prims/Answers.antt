use Rattle.std.proofs.Common.{◌≡◌, ◌∷◌, [], true, length, ap, sym, refl, arith}
use Rattle.sop_model.specs.Geometry.{empty_geo}
use Rattle.sop_model.specs.Rows.{prim_added}
use Rattle.sop_shape.proofs.tests.two_prims.Goals as goal

pub add_prim-requires-clause-prims : goal.add_prim-requires-clause-prims
add_prim-requires-clause-prims c = let none : 0 ≡ length c.empty-shape.result.closed = ap (λ s. length s.closed) (c.empty-shape.ensures empty_geo refl) in omega arith

pub add_prim-requires-clause-vertices : goal.add_prim-requires-clause-vertices
add_prim-requires-clause-vertices c = let none : 0 ≡ length c.empty-shape.result.refers = ap (λ s. length s.refers) (c.empty-shape.ensures empty_geo refl) in omega arith

pub add_prim-requires-2-clause-prims : goal.add_prim-requires-2-clause-prims
add_prim-requires-2-clause-prims c =
    let one : 1 ≡ length c.add_prim.new.self.closed = ap (λ s. length s.closed) (c.in_ok-add_prim.ensures.ok empty_geo (c.empty-shape.ensures empty_geo refl)) in
    omega arith

pub add_prim-requires-2-clause-vertices : goal.add_prim-requires-2-clause-vertices
add_prim-requires-2-clause-vertices c =
    let two : 2 ≡ length c.add_prim.new.self.refers = ap (λ s. length s.refers) (c.in_ok-add_prim.ensures.ok empty_geo (c.empty-shape.ensures empty_geo refl)) in
    omega arith

pub returns : goal.returns
returns c = sym (c.in_ok-add_prim-2.ensures.ok (prim_added empty_geo true (0 ∷ 1 ∷ [])) (c.in_ok-add_prim.ensures.ok empty_geo (c.empty-shape.ensures empty_geo refl)))

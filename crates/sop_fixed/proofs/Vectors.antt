-- Vectors that `==` finds equal.
use Rattle.std.proofs.Common.{◌≡◌, ap}
use Rattle.std.specs.Bool.{Decides}
use Rattle.std.specs.Cmp.{signed_Decides}
use Rattle.std.proofs.lemmas.Bool.{and_from, and_parts}
use Rattle.sop_fixed.specs.declared.vec3.Vec3.{Vec3}
use Rattle.sop_fixed.specs.contracts.vec3.Vec3PartialEq.TheImpl as vec3

-- `==` of two vectors says whether they are the same; so does that of two lists of them, by `pointwise_decides`
pub vec3_decides : (a b : Vec3) → Decides (vec3.ghosts.eq a b) (a ≡ b)
vec3_decides a b = (
  λ same.
      let first = and_parts _ _ same in
      let others = and_parts _ _ first.1 in
      let x = (signed_Decides a.x b.x).0 first.0 in
      let y = (signed_Decides a.y b.y).0 others.0 in
      let z = (signed_Decides a.z b.z).0 others.1 in
      λ i. record { x = x i; y = y i; z = z i },
  λ same.
      and_from _ _ ((signed_Decides a.x b.x).1 (ap (λ v. v.x) same))
      (and_from _ _ ((signed_Decides a.y b.y).1 (ap (λ v. v.y) same)) ((signed_Decides a.z b.z).1 (ap (λ v. v.z) same))),
)

-- Closed primitives of four points that come to points alone.
use Rattle.std.proofs.Common.{◌≡◌, ℕ, ◌+◌, ◌<◌, true, List, [], ◌∷◌, ◌++◌, length, refl, sym, ap, ◌∙◌, subst, arith, length-append}
use Rattle.std.specs.Prelude.{All, Some, Ok, Err}
use Rattle.sop_fixed.specs.declared.vec3.Vec3.{Vec3}
use Rattle.sop_model.specs.declared.geo.Geo.{Geo}
use Rattle.sop_model.specs.declared.fault.CookStop.{CookStop}
use Rattle.sop_model.specs.declared.fault.CookStop.TheVariants as stop
use Rattle.sop_model.specs.Limits.{most_prims}
use Rattle.sop_model.specs.Geometry.{IsWithin}
use Rattle.sop_model.specs.Rows.{prim_added, ArePoints}
use Rattle.sop_columns.proofs.NameLemmas.{grows_none}
use Rattle.sop_vault.specs.Keyed.{at, IsLive}
use Rattle.sop_vault.specs.Vaults.{VaultMap, Changed}
use Rattle.sop_basic.specs.Making.{Makes, HasPoints}
use Rattle.sop_basic.specs.Shapes.{shape, prim_through, closed_prims}
use Rattle.sop_basic.proofs.MakingLemmas.{same_there, live_of, changed_then, touched_changed, touched_then}
use Rattle.sop_basic.proofs.ShapeLemmas.{shape_within, vertices_behind, points_of_shape, prims_long, prims_more, prims_vertices}

-- so many primitives came, and nothing else
abbrev pub HasQuads : (ℕ → List ℕ) → VaultMap → VaultMap → ℕ → ℕ → Type 0
HasQuads corners old now key i = (places : List Vec3) → at old.geos key ≡ Some (shape places []) → Changed old now key (Some (shape places (closed_prims corners i)))

pub quads_none : (corners : ℕ → List ℕ) (v : VaultMap) (key : ℕ) → HasQuads corners v v key 0
quads_none corners v key places there = record { geos = record { here = there; others = λ other apart. refl }; held = λ other apart. refl; names = grows_none v.names }

module _ (corners : ℕ → List ℕ) (old now : VaultMap) (key i : ℕ) (has : HasPoints old key) (so_far : HasQuads corners old now key i) where
  abbrev stands : Geo
  stands = shape has.places (closed_prims corners i)

  there_now : at now.geos key ≡ Some stands
  there_now = (so_far has.places has.there).geos.here

  pub quads_live : IsLive now.geos key
  quads_live = live_of now key stands there_now

  pub quad_points : (quad : List ℕ) → quad ≡ corners i → All (λ p. p < length has.places) (corners i) → (g : Geo) → at now.geos key ≡ Some g → ArePoints g quad
  quad_points quad is below g there =
      subst (λ (x : Geo). ArePoints x quad) (same_there (at now.geos key) stands g there_now there)
      (points_of_shape has.places (closed_prims corners i) quad (subst (λ xs. All (λ p. p < length has.places) xs) (sym is) below))

  pub quad_room : ((i : ℕ) → length (corners i) ≡ 4) → i < most_prims → (quad : List ℕ) → quad ≡ corners i → (g : Geo) → at now.geos key ≡ Some g → IsWithin (prim_added g true quad)
  quad_room four lt quad is g there =
      let prims = prims_long corners i in
      let long = length-append (closed_prims corners i) (prim_through true quad ∷ []) in
      let behind = vertices_behind (closed_prims corners i) true quad in
      let before = prims_vertices corners four i in
      let last : length quad ≡ 4 = ap (λ (xs : List ℕ). length xs) is ∙ four i in
      subst (λ (x : Geo). IsWithin (prim_added x true quad)) (same_there (at now.geos key) stands g there_now there)
      (shape_within has.places (closed_prims corners i ++ prim_through true quad ∷ []) has.few (omega arith) (omega arith))

  one_more : (places : List Vec3) (quad : List ℕ) → quad ≡ corners i → prim_added (shape places (closed_prims corners i)) true quad ≡ shape places (closed_prims corners (i + 1))
  one_more places quad is = ap (λ xs. shape places (closed_prims corners i ++ prim_through true xs ∷ [])) is ∙ ap (shape places) (sym (prims_more corners i))

  pub quads_more : (new : VaultMap) (quad : List ℕ) → quad ≡ corners i → ((g : Geo) → at now.geos key ≡ Some g → Makes now new key (Ok (prim_added g true quad)) (Ok tt)) → HasQuads corners old new key (i + 1)
  quads_more new quad is step places there =
      let ch = so_far places there in
      let (h, made, then) = step (shape places (closed_prims corners i)) ch.geos.here in
      let same : h ≡ shape places (closed_prims corners (i + 1)) = let e : prim_added (shape places (closed_prims corners i)) true quad ≡ h = cc in sym e ∙ one_more places quad is in
      changed_then old now new key (Some (shape places (closed_prims corners i))) (Some (shape places (closed_prims corners (i + 1)))) ch (subst (λ (x : Geo). Changed now new key (Some x)) same then)

  pub quads_stopped : (new : VaultMap) (quad : List ℕ) (s : CookStop) (outcome : Geo) → ((g : Geo) → at now.geos key ≡ Some g → Makes now new key (Ok (prim_added g true quad)) (Err s)) → Makes old new key (Ok outcome) (Err s)
  quads_stopped new quad (stop.Fault f) outcome step = let (made, then) = step stands there_now in absurd (cc)
  quads_stopped new quad stop.Memory outcome step = touched_then old now new key (touched_changed old now key stands (so_far has.places has.there)) (step stands there_now)

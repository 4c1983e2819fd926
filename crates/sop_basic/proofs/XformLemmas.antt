-- Points moved in turn are the points moved where they are selected.
use Rattle.std.proofs.Common.{◌≡◌, ℕ, suc, Bool, false, List, [], ◌∷◌, length, map, drop, refl, sym, ap, ◌∙◌, subst, arith, length-drop}
use Rattle.std.specs.Prelude.{Result, Ok, Err}
use Rattle.sop_fixed.specs.declared.fault.NumFault.{NumFault}
use Rattle.sop_fixed.specs.declared.vec3.Vec3.{Vec3}
use Rattle.sop_model.specs.declared.class.Class.TheVariants.{Point}
use Rattle.sop_model.specs.declared.geo.Geo.{Geo}
use Rattle.sop_model.specs.declared.geo.Row.{Row}
use Rattle.sop_model.specs.declared.fault.Fault.{Fault}
use Rattle.sop_model.specs.declared.fault.CookStop.{CookStop}
use Rattle.sop_model.specs.declared.value.Value.TheVariants as value
use Rattle.sop_model.specs.Places.{place_of, places_of}
use Rattle.sop_model.specs.Rows.{with_value, rows_held}
use Rattle.sop_net.specs.Network.{parm_at}
use Rattle.sop_vault.specs.Vaults.{VaultMap}
use Rattle.sop_basic.specs.declared.xform.Move.{Move}
use Rattle.sop_basic.specs.ParmTexts.{vector_in}
use Rattle.sop_basic.specs.Outcomes.{Outcome, then_with, in_range_from, all_in_range, limited}
use Rattle.sop_basic.specs.Selecting.{by_pattern, StopsWith}
use Rattle.sop_basic.specs.Xform.{moved_where, placed, xform_geo}
use Rattle.sop_basic.specs.Movements.{of_point, rows_moved, points_moved}
use Rattle.sop_basic.specs.Making.{Gives}
use Rattle.sop_basic.specs.Rules.{moving}
use Rattle.sop_basic.proofs.SelectLemmas.{selected_long, stops_at_once}
use Rattle.sop_basic.proofs.MovementLemmas.{split_at}

module _ (m : Move) where
  -- the targets of points whose flags are these
  abbrev targets_of : List Bool → List Row → List (Result Vec3 NumFault)
  targets_of flags rows = moved_where m.by m.scale flags (map place_of rows)

  one_moved : (i : ℕ) (row : Row) (rows : List Row) (results : List (Result Vec3 NumFault)) (r : Result Vec3 NumFault)
      → rows_moved (moving m) (suc i) rows ≡ then_with (in_range_from (suc i) results) (λ places. Ok (rows_held 0 rows (map value.Vector places)))
      → then_with (of_point i r) (λ v. then_with (rows_moved (moving m) (suc i) rows) (λ moved. Ok (with_value 0 (value.Vector v) row ∷ moved)))
      ≡ then_with (in_range_from i (r ∷ results)) (λ places. Ok (rows_held 0 (row ∷ rows) (map value.Vector places)))
  one_moved i row rows results (Err e) same = refl
  one_moved i row rows results (Ok v) same = ap (λ r. then_with r (λ moved. Ok (with_value 0 (value.Vector v) row ∷ moved))) same ∙ both (in_range_from (suc i) results)
    where
      both : (r : Result (List Vec3) Fault) → then_with (then_with r (λ places. Ok (rows_held 0 rows (map value.Vector places)))) (λ moved. Ok (with_value 0 (value.Vector v) row ∷ moved))
          ≡ then_with (then_with r (λ xs. Ok (v ∷ xs))) (λ places. Ok (rows_held 0 (row ∷ rows) (map value.Vector places)))
      both (Ok xs) = refl
      both (Err f) = refl

  -- the flags from the point i on are as many as the rows
  rows_are : (i : ℕ) (rows : List Row) → length (drop i m.selected.now) ≡ length rows
      → rows_moved (moving m) i rows ≡ then_with (in_range_from i (targets_of (drop i m.selected.now) rows)) (λ places. Ok (rows_held 0 rows (map value.Vector places)))
  rows_are i [] long = sym (ap (λ fs. then_with (in_range_from i (targets_of fs [])) (λ places. Ok (rows_held 0 [] (map value.Vector places)))) (empty (drop i m.selected.now) long))
    where
      empty : (flags : List Bool) → length flags ≡ 0 → flags ≡ []
      empty [] none = refl
      empty (on ∷ flags) none = absurd (omega (arith, none))
  rows_are i (row ∷ rows) long =
      let left = length-drop i m.selected.now in
      let next = length-drop (suc i) m.selected.now in
      let rest = drop (suc i) m.selected.now in
      one_moved i row rows (targets_of rest rows) (moving m i (place_of row)) (rows_are (suc i) rows (omega (arith, long, left, next)))
      ∙ sym (ap (λ fs. then_with (in_range_from i (targets_of fs (row ∷ rows))) (λ places. Ok (rows_held 0 (row ∷ rows) (map value.Vector places)))) (split_at m.selected.now i false (omega (arith, long, left))))

  moved_as_told : (g : Geo) → length m.selected.now ≡ length g.points → points_moved (moving m) g ≡ then_with (all_in_range (moved_where m.by m.scale m.selected.now (places_of g))) (λ places. Ok (placed g places))
  moved_as_told g long = ap (λ r. then_with r (λ rows. Ok (record g { points = rows }))) (rows_are 0 g.points long) ∙ both (in_range_from 0 (targets_of m.selected.now g.points))
    where
      both : (r : Result (List Vec3) Fault) → then_with (then_with r (λ places. Ok (rows_held 0 g.points (map value.Vector places)))) (λ rows. Ok (record g { points = rows })) ≡ then_with r (λ places. Ok (placed g places))
      both (Ok xs) = refl
      both (Err f) = refl

-- what becomes of a geometry whose points are selected
abbrev pub moved_geo : Vec3 → Vec3 → Geo → List Bool → Outcome
moved_geo by scale g flags = then_with (all_in_range (moved_where by scale flags (places_of g))) (λ places. Ok (placed g places))

module _ (parms : List (List ℕ)) (group : List ℕ) (group_is : group ≡ parm_at parms 2) where
  abbrev told : Geo → List ℕ → Outcome
  told g text = then_with (by_pattern g Point text) (moved_geo (vector_in (parm_at parms 0)) (vector_in (parm_at parms 1)) g)

  pub xform_stops : (v : VaultMap) (g : Geo) (s : CookStop) → StopsWith (by_pattern g Point group) s → Gives v v (limited (xform_geo parms g)) (Err s)
  xform_stops v g s stops =
      subst (λ o. Gives v v (limited o) (Err s)) (ap (told g) group_is)
      (stops_at_once v (by_pattern g Point group) (moved_geo (vector_in (parm_at parms 0)) (vector_in (parm_at parms 1)) g) s stops)

  pub xform_is : (m : Move) → m.by ≡ vector_in (parm_at parms 0) → m.scale ≡ vector_in (parm_at parms 1) → (g : Geo) → by_pattern g Point group ≡ Ok m.selected.now → points_moved (moving m) g ≡ xform_geo parms g
  xform_is m by_is scale_is g selected =
      moved_as_told m g (selected_long g Point group m.selected.now selected)
      ∙ ap (λ t. moved_geo t m.scale g m.selected.now) by_is ∙ ap (λ s. moved_geo (vector_in (parm_at parms 0)) s g m.selected.now) scale_is
      ∙ sym (ap (λ r. then_with r (moved_geo (vector_in (parm_at parms 0)) (vector_in (parm_at parms 1)) g)) selected) ∙ ap (told g) group_is

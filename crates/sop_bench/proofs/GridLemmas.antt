-- A point with a place, put at another one, leaves each point a place.
use Rattle.std.proofs.Common.{◌≡◌, ℕ, sym, ◌∙◌, subst}
use Rattle.std.specs.Prelude.{Option, Some, None, Result, Ok, Err, IsSomeAnd, IfSome, OnOk}
use Rattle.std.specs.Result.{result_ok}
use Rattle.sop_model.specs.declared.class.Class.TheVariants.{Point}
use Rattle.sop_model.specs.declared.geo.Geo.{Geo}
use Rattle.sop_model.specs.declared.value.Value.{Value}
use Rattle.sop_model.specs.Rows.{with_value, value_set}
use Rattle.sop_model.proofs.RowLists.{length-changed_at}
use Rattle.sop_vault.specs.Keyed.{at}
use Rattle.sop_vault.specs.Vaults.{VaultMap, Changed}
use Rattle.sop_bench.specs.Vaults.{HasPlaces, Leaves}

module _ (old new : VaultMap) (key n point : ℕ) (v : Value) where
  places_set : (g : Geo) → HasPlaces n g → HasPlaces n (value_set g Point 0 point v)
  places_set g has = record { many = length-changed_at (with_value 0 v) g.points point ∙ has.many; head = has.head; vector = has.vector }

  set_at : (o : Option Geo) → IsSomeAnd o (HasPlaces n) → IfSome o (λ g. Changed old new key (Some (value_set g Point 0 point v))) → Leaves old.geos new.geos key n
  set_at None has changed = absurd has
  set_at (Some g) has changed = record {
    here = subst (λ (o : Option Geo). IsSomeAnd o (HasPlaces n)) (sym changed.geos.here) (places_set g has);
    others = changed.geos.others;
  }

  pub point_placed : {T E : Type 0} (r : Result T E) (o : Option T) → o ≡ result_ok r → IsSomeAnd (at old.geos key) (HasPlaces n)
      → OnOk r (IfSome (at old.geos key) (λ g. Changed old new key (Some (value_set g Point 0 point v)))) → IfSome o (λ done. Leaves old.geos new.geos key n)
  point_placed (Ok x) None same has changed = tt
  point_placed (Ok x) (Some y) same has changed = set_at (at old.geos key) has changed
  point_placed (Err e) None same has changed = tt
  point_placed (Err e) (Some y) same has changed = cc

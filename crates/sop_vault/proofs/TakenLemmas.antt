-- The places of points that were taken out as pages may be put in again.
use Rattle.std.proofs.Common.{◌≡◌, ℕ, ◌<◌, arith, List, [], ◌∷◌, length, map, refl, ap, sym, ◌∙◌, subst}
use Rattle.std.specs.Prelude.{Option, Some, All, IfSome, IsSomeAnd, IsTrue, option_map, replicate, slice_get, slice_index_or, pos}
use Rattle.std.proofs.lemmas.List.{length-map}
use Rattle.std.proofs.lemmas.List.Elements.{All-map, All-weaker}
use Rattle.sop_model.specs.declared.class.Class.TheVariants.{Point}
use Rattle.sop_model.specs.declared.geo.Geo.{Geo}
use Rattle.sop_model.specs.declared.geo.Head.{Head}
use Rattle.sop_model.specs.declared.geo.Row.{Row}
use Rattle.sop_model.specs.declared.value.Kind.TheVariants as kind
use Rattle.sop_model.specs.declared.value.Value.{Value}
use Rattle.sop_model.specs.declared.value.Value.TheVariants as value
use Rattle.sop_model.specs.Values.{kind_of, is_value_within}
use Rattle.sop_model.specs.Geometry.{count_of, BeginsWithPosition, IsReadable, IsRowOf}
use Rattle.sop_model.specs.Rows.{column_of, column_cleared, default_at, HasHead, IsOfHead}
use Rattle.sop_rows.proofs.RowSound.{length-rows_held}
use Rattle.sop_pages.specs.declared.cell.Cell.{Cell}
use Rattle.sop_cells.specs.Shelves.{joined}
use Rattle.sop_columns.specs.Names.{value_of, IsNumbered}
use Rattle.sop_columns.proofs.NameLemmas.{values_grow}
use Rattle.sop_tables.proofs.LoadedLemmas.{length-column}
use Rattle.sop_vault.specs.Keyed.{at}
use Rattle.sop_vault.specs.Vaults.{VaultMap, Changed}

-- a row's first value
abbrev first_of : List Value → Value
first_of values = slice_index_or values 0 (value.Int (pos 0))

first_is_vector : (heads : List Head) (values : List Value) → BeginsWithPosition heads → map kind_of values ≡ map (λ h. h.kind) heads → kind_of (first_of values) ≡ kind.Vector
first_is_vector [] values begins same = cc
first_is_vector (h ∷ heads) [] begins same = cc
first_is_vector (h ∷ heads) (v ∷ values) begins same = let e : h.kind ≡ kind.Vector = ap (λ (h : Head). h.kind) begins in cc

head_is_vector : (heads : List Head) → BeginsWithPosition heads → option_map (λ h. h.kind) (slice_get heads 0) ≡ Some kind.Vector
head_is_vector [] begins = cc
head_is_vector (h ∷ heads) begins = ap (λ (h : Head). Some h.kind) begins

vector_within : (v : Value) → kind_of v ≡ kind.Vector → IsTrue (is_value_within v)
vector_within (value.Int n) is = cc
vector_within (value.Real x) is = cc
vector_within (value.Vector v) is = refl
vector_within (value.Str text) is = cc
vector_within (value.Ints list) is = cc
vector_within (value.Reals list) is = cc
vector_within (value.Vectors list) is = cc
vector_within (value.Strs list) is = cc

head_there : (heads : List Head) → BeginsWithPosition heads → 0 < length heads
head_there [] begins = cc
head_there (h ∷ heads) begins = omega arith

-- the places of points were taken out
module _ (old new : VaultMap) (key : ℕ) (pages : List (List Cell)) (g : Geo) (was : at old.geos key ≡ Some g) (readable : IsReadable g)
    (values : IfSome (at old.geos key) (λ g. map (value_of old.names) (joined pages) ≡ column_of g Point 0)) (numbered : All (IsNumbered old.names) (joined pages))
    (changed : IfSome (at old.geos key) (λ g. Changed old new key (Some (column_cleared g Point 0)))) where
  abbrev IsVector : Value → Type 0
  IsVector v = kind_of v ≡ kind.Vector

  held : map (value_of old.names) (joined pages) ≡ column_of g Point 0
  held = subst (λ (o : Option Geo). IfSome o (λ g. map (value_of old.names) (joined pages) ≡ column_of g Point 0)) was values

  now : Changed old new key (Some (column_cleared g Point 0))
  now = subst (λ (o : Option Geo). IfSome o (λ g. Changed old new key (Some (column_cleared g Point 0)))) was changed

  still_held : map (value_of new.names) (joined pages) ≡ column_of g Point 0
  still_held = values_grow old.names new.names (joined pages) now.names numbered ∙ held

  are_vectors : All IsVector (map (value_of new.names) (joined pages))
  are_vectors =
      subst (All IsVector) (sym still_held)
      (All-map IsVector (λ (row : Row). first_of row.values) g.points
      (All-weaker (IsRowOf g.point) (λ row. IsVector (first_of row.values)) (λ row is. first_is_vector g.point.heads row.values readable.sound.position is.kinds) g.points (readable.sound.rows Point)))

  pub taken_within : All (λ v. IsTrue (is_value_within v)) (map (value_of new.names) (joined pages))
  taken_within = All-weaker IsVector (λ v. IsTrue (is_value_within v)) vector_within (map (value_of new.names) (joined pages)) are_vectors

  many : length (joined pages) ≡ count_of (column_cleared g Point 0) Point
  many =
      sym (length-map (joined pages) (value_of new.names)) ∙ ap (λ (vs : List Value). length vs) still_held
      ∙ length-column g Point 0 ∙ sym (length-rows_held 0 g.points (replicate (count_of g Point) (default_at g Point 0)))

  pub taken_there : IsSomeAnd (at new.geos key) (λ h. HasHead h Point 0 × (length (joined pages) ≡ count_of h Point) × All (IsOfHead h Point 0) (map (value_of new.names) (joined pages)))
  taken_there =
      subst (λ (o : Option Geo). IsSomeAnd o (λ h. HasHead h Point 0 × (length (joined pages) ≡ count_of h Point) × All (IsOfHead h Point 0) (map (value_of new.names) (joined pages))))
      (sym now.geos.here)
      (head_there g.point.heads readable.sound.position, many, All-weaker IsVector (IsOfHead (column_cleared g Point 0) Point 0) (λ v e. head_is_vector g.point.heads readable.sound.position ∙ ap Some (sym e)) (map (value_of new.names) (joined pages)) are_vectors)

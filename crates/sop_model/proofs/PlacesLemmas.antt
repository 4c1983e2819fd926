-- The first value of a point is its place.
use Rattle.std.proofs.Common.{◌≡◌, ℕ, ◌<◌, List, [], ◌∷◌, length, map, get_or, refl, sym, ap, ◌∙◌, Some}
use Rattle.std.specs.Prelude.{slice_get, Option, None}
use Rattle.std.specs.Option.{option_and_then, option_map}
use Rattle.std.proofs.lemmas.Option.{slice_get-get_or, slice_get-map}
use Rattle.sop_fixed.specs.declared.vec3.Vec3.{Vec3}
use Rattle.sop_model.specs.declared.class.Class.TheVariants.{Point}
use Rattle.sop_model.specs.declared.geo.Geo.{Geo}
use Rattle.sop_model.specs.declared.geo.Row.{Row}
use Rattle.sop_model.specs.declared.geo.Head.{Head}
use Rattle.sop_model.specs.declared.value.Kind.TheVariants as kind
use Rattle.sop_model.specs.declared.value.Value.{Value}
use Rattle.sop_model.specs.declared.value.ValueRef.{ValueRef}
use Rattle.sop_model.specs.declared.value.ValueRef.TheVariants as seen
use Rattle.sop_model.specs.Values.{kind_of, value_seen}
use Rattle.sop_model.specs.Geometry.{empty_row, value_at, IsReadable, BeginsWithPosition}
use Rattle.sop_model.specs.Places.{vector_in, place_of, places_of}

-- where `P` is the first head, the first value is a vector
first_kind : (values : List Value) (heads : List Head) (v : Value) → map kind_of values ≡ map (λ h. h.kind) heads → BeginsWithPosition heads → slice_get values 0 ≡ Some v → kind_of v ≡ kind.Vector
first_kind values [] v kinds begins is = cc
first_kind [] (h ∷ heads) v kinds begins is = cc
first_kind (w ∷ values) (h ∷ heads) v kinds begins is =
    let same : w ≡ v = cc in
    let first : kind_of w ≡ h.kind = cc in
    ap kind_of (sym same) ∙ first ∙ ap (λ (h : Head). h.kind) begins

not_vector : (r : ValueRef) → kind_of (value_seen r) ≡ kind.Vector → ((x : Vec3) → r ≡ seen.Vector x → ⊥) → ⊥
not_vector (seen.Int n) k other = cc
not_vector (seen.Real x) k other = cc
not_vector (seen.Vector v) k other = other v refl
not_vector (seen.Str text) k other = cc
not_vector (seen.Ints list) k other = cc
not_vector (seen.Reals list) k other = cc
not_vector (seen.Vectors list) k other = cc
not_vector (seen.Strs list) k other = cc

pub place_is_vector : (g : Geo) (point : ℕ) (r : ValueRef) → IsReadable g → point < length g.points → value_at g Point 0 point ≡ Some (value_seen r) → ((x : Vec3) → r ≡ seen.Vector x → ⊥) → ⊥
place_is_vector g point r readable lt is other =
    let row = get_or g.points point empty_row in
    let found : slice_get g.points point ≡ Some row = slice_get-get_or g.points point empty_row lt in
    let fits = readable.sound.rows Point point empty_row lt in
    let first : slice_get row.values 0 ≡ Some (value_seen r) = ap (option_and_then (λ row. slice_get row.values 0)) (sym found) ∙ is in
    not_vector r (first_kind row.values g.point.heads (value_seen r) fits.kinds readable.sound.position first) other

in_row : (o : Option Row) (v : Value) → option_and_then (λ row. slice_get row.values 0) o ≡ Some v → option_map place_of o ≡ Some (vector_in (Some v))
in_row None v is = cc
in_row (Some row) v is = ap (λ o. Some (vector_in o)) is

-- the place that is read at a point is the one of its row
pub place_read : (g : Geo) (point : ℕ) (v : Value) → value_at g Point 0 point ≡ Some v → slice_get (places_of g) point ≡ Some (vector_in (Some v))
place_read g point v is = slice_get-map place_of g.points point ∙ in_row (slice_get g.points point) v is

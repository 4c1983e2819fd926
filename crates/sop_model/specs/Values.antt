-- Values: their kinds and defaults, how a value is put where another kind is wanted, what it weighs, and its limits.
--
-- A value of the wanted kind stays. A whole number is exact as a real, where it is in range; a real is cut toward zero to a whole number.
-- No other value goes where another kind is wanted.
-- A whole number and a real weigh 1, a vector 3, a string 1 and one more for each whole eighth of its bytes, a list 1 and its items' weights.
use Rattle.std.specs.Prelude.{ℕ, ◌+◌, ◌*◌, ◌/◌, nat_le, Bool, true, false, ◌&&◌, List, [], length, sum_by, pos, Option, None, Some}
use Rattle.std.specs.List.{list_all}
use Rattle.std.specs.Option.{option_map}
use Rattle.std.specs.Result.{result_ok}
use Rattle.sop_fixed.specs.Arithmetic.{units_of, real_of_int}
use Rattle.sop_fixed.specs.declared.vec3.Vec3.{Vec3}
use Rattle.sop_model.specs.declared.value.Kind.{Kind}
use Rattle.sop_model.specs.declared.value.Kind.TheVariants as kind
use Rattle.sop_model.specs.declared.value.Value.{Value}
use Rattle.sop_model.specs.declared.value.Value.TheVariants as value
use Rattle.sop_model.specs.declared.value.ValueRef.{ValueRef}
use Rattle.sop_model.specs.declared.value.ValueRef.TheVariants as seen
use Rattle.sop_model.specs.Limits.{most_string_bytes, most_list_items}

abbrev pub kind_of : Value → Kind
kind_of (value.Int n) = kind.Int
kind_of (value.Real x) = kind.Real
kind_of (value.Vector v) = kind.Vector
kind_of (value.Str text) = kind.Str
kind_of (value.Ints list) = kind.Ints
kind_of (value.Reals list) = kind.Reals
kind_of (value.Vectors list) = kind.Vectors
kind_of (value.Strs list) = kind.Strs

-- the value that a borrowed value stands for
abbrev pub value_seen : ValueRef → Value
value_seen (seen.Int n) = value.Int n
value_seen (seen.Real x) = value.Real x
value_seen (seen.Vector v) = value.Vector v
value_seen (seen.Str text) = value.Str text.now
value_seen (seen.Ints list) = value.Ints list.now
value_seen (seen.Reals list) = value.Reals list.now
value_seen (seen.Vectors list) = value.Vectors list.now
value_seen (seen.Strs list) = value.Strs list.now

abbrev pub kind_seen : ValueRef → Kind
kind_seen v = kind_of (value_seen v)

abbrev pub zero_vector : Vec3
zero_vector = record { x = pos 0; y = pos 0; z = pos 0 }

-- zero, the empty text or the empty list
abbrev pub default_of : Kind → Value
default_of kind.Int = value.Int (pos 0)
default_of kind.Real = value.Real (pos 0)
default_of kind.Vector = value.Vector zero_vector
default_of kind.Str = value.Str []
default_of kind.Ints = value.Ints []
default_of kind.Reals = value.Reals []
default_of kind.Vectors = value.Vectors []
default_of kind.Strs = value.Strs []

-- the value where this kind is wanted, if it goes there
abbrev pub put : Kind → Value → Option Value
put kind.Int (value.Int n) = Some (value.Int n)
put kind.Int (value.Real x) = Some (value.Int (units_of x))
put kind.Real (value.Real x) = Some (value.Real x)
put kind.Real (value.Int n) = option_map (λ x. value.Real x) (result_ok (real_of_int n))
put kind.Vector (value.Vector v) = Some (value.Vector v)
put kind.Str (value.Str text) = Some (value.Str text)
put kind.Ints (value.Ints list) = Some (value.Ints list)
put kind.Reals (value.Reals list) = Some (value.Reals list)
put kind.Vectors (value.Vectors list) = Some (value.Vectors list)
put kind.Strs (value.Strs list) = Some (value.Strs list)
put _ _ = None

-- a copy of a value of such a kind takes no memory
abbrev pub is_plain : Kind → Bool
is_plain kind.Int = true
is_plain kind.Real = true
is_plain kind.Vector = true
is_plain _ = false

abbrev pub text_weight : List ℕ → ℕ
text_weight text = 1 + length text / 8

abbrev pub weight_of : Value → ℕ
weight_of (value.Int n) = 1
weight_of (value.Real x) = 1
weight_of (value.Vector v) = 3
weight_of (value.Str text) = text_weight text
weight_of (value.Ints list) = 1 + length list
weight_of (value.Reals list) = 1 + length list
weight_of (value.Vectors list) = 1 + 3 * length list
weight_of (value.Strs list) = 1 + sum_by text_weight list

abbrev pub is_text_within : List ℕ → Bool
is_text_within text = nat_le (length text) most_string_bytes

abbrev pub is_list_within : {A : Type 0} → List A → Bool
is_list_within list = nat_le (length list) most_list_items

-- strings, also those in a list, and lists are within their limits
abbrev pub is_value_within : Value → Bool
is_value_within (value.Int n) = true
is_value_within (value.Real x) = true
is_value_within (value.Vector v) = true
is_value_within (value.Str text) = is_text_within text
is_value_within (value.Ints list) = is_list_within list
is_value_within (value.Reals list) = is_list_within list
is_value_within (value.Vectors list) = is_list_within list
is_value_within (value.Strs list) = is_list_within list && list_all is_text_within list

-- How the listing prints values.
--
-- A whole number prints as its decimal, a real as its shortest plain decimal, a vector as its three numbers with blanks between. A string
-- stands in `"`; in it `"` prints as `\"`, `\` as `\\`, LF as `\n`, another byte below 32 and 127 as `\x` and two hexadecimal digits in
-- lower case, and every other byte as it is. A list stands in brackets, with `, ` between its items.
use Rattle.std.specs.Prelude.{ℕ, ◌/◌, ◌%◌, Bool, false, ◌||◌, nat_lt, ◌==◌, if◌then◌else◌, List, [], ◌∷◌, ◌++◌, flat_map, codes}
use Rattle.std.specs.Fmt.{signed_decimal, digit_glyph}
use Rattle.std.specs.List.{join_by}
use Rattle.sop_fixed.specs.Numerals.{decimal_of}
use Rattle.sop_fixed.specs.declared.vec3.Vec3.{Vec3}
use Rattle.sop_model.specs.declared.value.Value.{Value}
use Rattle.sop_model.specs.declared.value.Value.TheVariants as value

abbrev pub vector_text : Vec3 → List ℕ
vector_text v = decimal_of v.x ++ codes " " ++ decimal_of v.y ++ codes " " ++ decimal_of v.z

-- a byte below 32, or 127
abbrev pub is_control : ℕ → Bool
is_control b = nat_lt b 32 || (b == 127)

abbrev pub hexadecimal_text : ℕ → List ℕ
hexadecimal_text b = codes "\\x" ++ digit_glyph false (b / 16) ∷ digit_glyph false (b % 16) ∷ []

-- a byte of a string
abbrev pub byte_text : ℕ → List ℕ
byte_text b =
    if b == 34 then codes "\\\""
    else if b == 92 then codes "\\\\"
    else if b == 10 then codes "\\n"
    else if is_control b then hexadecimal_text b
    else b ∷ []

abbrev pub string_text : List ℕ → List ℕ
string_text bytes = codes "\"" ++ flat_map byte_text bytes ++ codes "\""

abbrev pub list_of : {A : Type 0} → (A → List ℕ) → List A → List ℕ
list_of item_text items = codes "[" ++ join_by item_text (codes ", ") items ++ codes "]"

abbrev pub value_text : Value → List ℕ
value_text (value.Int n) = signed_decimal n
value_text (value.Real x) = decimal_of x
value_text (value.Vector v) = vector_text v
value_text (value.Str text) = string_text text
value_text (value.Ints list) = list_of signed_decimal list
value_text (value.Reals list) = list_of decimal_of list
value_text (value.Vectors list) = list_of vector_text list
value_text (value.Strs list) = list_of string_text list

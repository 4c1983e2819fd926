-- `attribcreate`: the class `class` has an attribute `name` of the kind `kind`, and the selected elements the value `value` under it.
--
-- An int is an optional `-` and digits that give an Int, a float a numeral in range, a vector three of these between blanks, a string any
-- text; the empty text is the default. BadParm for a bad name, a value that isn't a text of the kind, and the points' `P` with another kind
-- than vector. An attribute of another kind is deleted, and made anew last. Elements that aren't selected keep their value, or have the
-- default of a new attribute.
use Rattle.std.specs.Prelude.{ℕ, Bool, ◌&&◌, ◌||◌, not, ◌==◌, if◌then◌else◌, List, [], ◌∷◌, length, Option, None, Some, option_map, Ok, Err, codes, bytes_eq}
use Rattle.std.specs.Result.{result_ok}
use Rattle.sop_outside.specs.Blanks.{words_of}
use Rattle.sop_fixed.specs.Numerals.{value_of, whole_number_of}
use Rattle.sop_model.specs.declared.class.Class.{Class}
use Rattle.sop_model.specs.declared.geo.Geo.{Geo}
use Rattle.sop_model.specs.declared.fault.Fault.TheVariants.{BadParm}
use Rattle.sop_model.specs.declared.value.Kind.{Kind}
use Rattle.sop_model.specs.declared.value.Kind.TheVariants as kind
use Rattle.sop_model.specs.declared.value.Value.{Value}
use Rattle.sop_model.specs.declared.value.Value.TheVariants as value
use Rattle.sop_model.specs.Names.{is_name}
use Rattle.sop_model.specs.Values.{kind_of, default_of}
use Rattle.sop_net.specs.Network.{parm_at}
use Rattle.sop_net.specs.ParmValues.{are_numbers}
use Rattle.sop_basic.specs.ParmTexts.{class_in, vector_in}
use Rattle.sop_basic.specs.Outcomes.{Outcome, then_with}
use Rattle.sop_basic.specs.Selecting.{by_pattern}
use Rattle.sop_basic.specs.Heads.{is_position, is_kind, with_head, with_column}

-- the word of a kind
abbrev pub kind_in : List ℕ → Kind
kind_in text =
    if bytes_eq text (codes "int") then kind.Int
    else if bytes_eq text (codes "vector") then kind.Vector
    else if bytes_eq text (codes "string") then kind.Str
    else kind.Real

-- the value that a text of some bytes says
abbrev pub value_said : Kind → List ℕ → Option Value
value_said kind.Int text = option_map value.Int (result_ok (whole_number_of text))
value_said kind.Real text = option_map value.Real (result_ok (value_of text))
value_said kind.Vector text = if are_numbers text && (length (words_of text) == 3) then Some (value.Vector (vector_in text)) else None
value_said kind.Str text = Some (value.Str text)
value_said _ text = None

-- the value of a text, and None where it isn't one of the kind
abbrev pub value_in : Kind → List ℕ → Option Value
value_in wanted [] = Some (default_of wanted)
value_in wanted (byte ∷ text) = value_said wanted (byte ∷ text)

-- whether a class may have an attribute of this name and kind
abbrev pub may_have : Class → List ℕ → Kind → Bool
may_have class name wanted = is_name name && (not (is_position class name) || is_kind kind.Vector (Some wanted))

-- the value that the parameters tell, and None where one of them doesn't fit
abbrev pub value_told : List (List ℕ) → Option Value
value_told parms =
    let wanted = kind_in (parm_at parms 2) in
    if may_have (class_in (parm_at parms 0)) (parm_at parms 1) wanted then value_in wanted (parm_at parms 3) else None

-- the value where an element is selected
abbrev pub set_where : Value → List Bool → List Value → List Value
set_where v [] values = values
set_where v (on ∷ flags) [] = []
set_where v (on ∷ flags) (old ∷ values) = (if on then v else old) ∷ set_where v flags values

-- the geometry with a value under a name at the selected elements
abbrev pub set_under : Class → List ℕ → Value → Geo → List Bool → Geo
set_under class name v g flags = with_column (with_head g class (record { name = name; kind = kind_of v })) class name (set_where v flags)

abbrev pub created : Class → List ℕ → List ℕ → Geo → Option Value → Outcome
created class name group g None = Err BadParm
created class name group g (Some v) = then_with (by_pattern g class group) (λ flags. Ok (set_under class name v g flags))

-- `class`, `name`, `kind`, `value`, `group`
abbrev pub attrib_create_geo : List (List ℕ) → Geo → Outcome
attrib_create_geo parms g = created (class_in (parm_at parms 0)) (parm_at parms 1) (parm_at parms 4) g (value_told parms)

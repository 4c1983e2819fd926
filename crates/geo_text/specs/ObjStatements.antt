-- What a line of an OBJ text says by its words.
--
-- The first word is the keyword. `v` is a point, `vt` a texture coordinate, `vn` a normal, `f` a closed primitive and `l` an open one, `p`
-- references that are only checked, and `g` the groups of the primitives that follow. Every other line says nothing, and neither does `f` or
-- `l` without a reference. A reference names a point, and may name a texture coordinate and a normal.
use Rattle.std.specs.Prelude.{ℕ, Bool, true, false, if◌then◌else◌, ◌==◌, List, [], ◌∷◌, map, take, Option, None, Some, option_map, Result, Ok, ℤ, pos, codes}
use Rattle.std.specs.List.{slice_split}
use Rattle.std.specs.Char.{is_ascii_digit}
use Rattle.std.specs.Str.{bytes_eq}
use Rattle.sop_fixed.specs.Numerals.{after_sign, has_minus, is_some_digits, number_of, value_of}
use Rattle.sop_fixed.specs.declared.fault.NumeralFault.{NumeralFault}
use Rattle.sop_fixed.specs.declared.vec3.Vec3.{Vec3}
use Rattle.sop_model.specs.Limits.{most_name_bytes}
use Rattle.sop_model.specs.Names.{continues_name}
use Rattle.geo_text.specs.ObjLines.{is_filled}

-- A part of a reference: none, a number that counts from 1 over the whole text, one that counts back from the last element so far, or a text
-- that is no number.
pub data Part : Type 0 where
  Absent : Part
  Ahead : ℕ → Part
  Back : ℕ → Part
  Wrong : Part

pub record Reference : Type 0 where
  pub point : Part
  pub texture : Part
  pub normal : Part
  -- whether a fourth part stands behind them
  pub is_long : Bool

pub record Place : Type 0 where
  pub at : Vec3
  pub colour : Option Vec3

-- None stands for a line in which a word isn't the numeral that is wanted.
pub data Statement : Type 0 where
  Point : Option Place → Statement
  Texture : Option Vec3 → Statement
  Normal : Option Vec3 → Statement
  Shape : (closed : Bool) → List Reference → Statement
  Checked : List Reference → Statement
  Groups : List (List ℕ) → Statement
  Nothing : Statement

-- NUMERALS

abbrev pub vector_of : Result ℤ NumeralFault → Result ℤ NumeralFault → Result ℤ NumeralFault → Option Vec3
vector_of (Ok a) (Ok b) (Ok c) = Some (record { x = a; y = b; z = c })
vector_of _ _ _ = None

abbrev pub vector_in : List ℕ → List ℕ → List ℕ → Option Vec3
vector_in x y z = vector_of (value_of x) (value_of y) (value_of z)

abbrev pub place_with : Option Vec3 → Option Vec3 → Option Place
place_with (Some at) (Some colour) = Some (record { at = at; colour = Some colour })
place_with _ _ = None

abbrev pub place_without : Option Vec3 → Option Place
place_without at = option_map (λ at. record { at = at; colour = None }) at

-- Behind `v` stand three numerals, and with six words or more three further ones, the colour. Other words are ignored.
abbrev pub place_in : List (List ℕ) → Option Place
place_in (x ∷ y ∷ z ∷ r ∷ g ∷ b ∷ words) = place_with (vector_in x y z) (vector_in r g b)
place_in (x ∷ y ∷ z ∷ words) = place_without (vector_in x y z)
place_in words = None

-- Behind `vt` stand one to three numerals, and those that are missing are zero. Further words are ignored.
abbrev pub texture_in : List (List ℕ) → Option Vec3
texture_in [] = None
texture_in (x ∷ []) = vector_of (value_of x) (Ok (pos 0)) (Ok (pos 0))
texture_in (x ∷ y ∷ []) = vector_of (value_of x) (value_of y) (Ok (pos 0))
texture_in (x ∷ y ∷ z ∷ words) = vector_in x y z

-- Behind `vn` stand three numerals. Further words are ignored.
abbrev pub normal_in : List (List ℕ) → Option Vec3
normal_in (x ∷ y ∷ z ∷ words) = vector_in x y z
normal_in words = None

-- REFERENCES

abbrev pub counted : (back : Bool) → ℕ → Part
counted true number = Back number
counted false number = Ahead number

-- an optional sign, then digits
abbrev pub part_of : List ℕ → Part
part_of [] = Absent
part_of (b ∷ text) = if is_some_digits (after_sign (b ∷ text)) then counted (has_minus (b ∷ text)) (number_of (after_sign (b ∷ text))) else Wrong

-- the parts of a reference; one slash at its end stands for nothing
abbrev pub without_empty_end : List (List ℕ) → List (List ℕ)
without_empty_end [] = []
without_empty_end (part ∷ []) = if is_filled part then part ∷ [] else []
without_empty_end (part ∷ next ∷ parts) = part ∷ without_empty_end (next ∷ parts)

abbrev pub reference_from : List (List ℕ) → Reference
reference_from [] = record { point = Absent; texture = Absent; normal = Absent; is_long = false }
reference_from (a ∷ []) = record { point = part_of a; texture = Absent; normal = Absent; is_long = false }
reference_from (a ∷ b ∷ []) = record { point = part_of a; texture = part_of b; normal = Absent; is_long = false }
reference_from (a ∷ b ∷ c ∷ []) = record { point = part_of a; texture = part_of b; normal = part_of c; is_long = false }
reference_from (a ∷ b ∷ c ∷ d ∷ parts) = record { point = part_of a; texture = part_of b; normal = part_of c; is_long = true }

-- `a`, `a/b`, `a//c` or `a/b/c`
abbrev pub reference_of : List ℕ → Reference
reference_of word = reference_from (without_empty_end (slice_split (λ b. b == 47) word))

-- NAMES

-- Each byte that can't stand in a name is `_`, `_` stands before a digit at the start, and a name is cut to its 64 bytes.
abbrev pub mended_byte : ℕ → ℕ
mended_byte b = if continues_name b then b else 95

abbrev pub with_start : List ℕ → List ℕ
with_start [] = []
with_start (b ∷ name) = if is_ascii_digit b then 95 ∷ b ∷ name else b ∷ name

abbrev pub mended : List ℕ → List ℕ
mended word = take most_name_bytes (with_start (map mended_byte word))

-- LINES

abbrev pub shape_in : Bool → List (List ℕ) → Statement
shape_in closed [] = Nothing
shape_in closed (word ∷ words) = Shape closed (map reference_of (word ∷ words))

abbrev pub statement_under : List ℕ → List (List ℕ) → Statement
statement_under key words =
    if bytes_eq key (codes "v") then Point (place_in words)
    else if bytes_eq key (codes "vt") then Texture (texture_in words)
    else if bytes_eq key (codes "vn") then Normal (normal_in words)
    else if bytes_eq key (codes "f") then shape_in true words
    else if bytes_eq key (codes "l") then shape_in false words
    else if bytes_eq key (codes "p") then Checked (map reference_of words)
    else if bytes_eq key (codes "g") then Groups (map mended words)
    else Nothing

abbrev pub statement_of : List (List ℕ) → Statement
statement_of [] = Nothing
statement_of (key ∷ words) = statement_under key words

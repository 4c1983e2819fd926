-- What the texts of parameters say. A parameter has a text that it takes, so the defaults here are never met at a node.
use Rattle.std.specs.Prelude.{ℕ, ℤ, pos, unsigned_abs, if◌then◌else◌, List, [], ◌∷◌, map, slice_index_or, unwrap_or, codes, bytes_eq}
use Rattle.std.specs.Result.{result_ok}
use Rattle.sop_outside.specs.Blanks.{words_of}
use Rattle.sop_fixed.specs.Numerals.{value_of, whole_number_of}
use Rattle.sop_fixed.specs.declared.vec3.Vec3.{Vec3}
use Rattle.sop_model.specs.declared.class.Class.{Class}
use Rattle.sop_model.specs.declared.class.Class.TheVariants.{Detail, Prim, Point, Vertex}
use Rattle.sop_model.specs.Values.{zero_vector}

-- a whole number, and one that isn't below zero
abbrev pub whole_in : List ℕ → ℤ
whole_in text = unwrap_or (result_ok (whole_number_of text)) (pos 0)

abbrev pub count_in : List ℕ → ℕ
count_in text = unsigned_abs (whole_in text)

-- a numeral
abbrev pub number_in : List ℕ → ℤ
number_in text = unwrap_or (result_ok (value_of text)) (pos 0)

-- three numbers each
abbrev pub vectors_of : List ℤ → List Vec3
vectors_of (x ∷ y ∷ z ∷ numbers) = record { x = x; y = y; z = z } ∷ vectors_of numbers
vectors_of _ = []

-- the vectors of a text of any multiple of three numerals, and the one of a text of three
abbrev pub vectors_in : List ℕ → List Vec3
vectors_in text = vectors_of (map number_in (words_of text))

abbrev pub vector_in : List ℕ → Vec3
vector_in text = slice_index_or (vectors_in text) 0 zero_vector

-- the word of a class
abbrev pub class_in : List ℕ → Class
class_in text =
    if bytes_eq text (codes "detail") then Detail
    else if bytes_eq text (codes "prim") then Prim
    else if bytes_eq text (codes "vertex") then Vertex
    else Point

-- The listing, computed on small geometries.
use Rattle.std.proofs.Common.{◌≡◌, ℕ, List, [], ◌∷◌, ◌++◌, true, false, refl}
use Rattle.std.specs.Prelude.{ℤ, pos, negsuc, codes, Bool}
use Rattle.std.specs.Fmt.{digits}
use Rattle.sop_fixed.specs.declared.vec3.Vec3.{Vec3}
use Rattle.sop_model.specs.declared.geo.Geo.{Geo}
use Rattle.sop_model.specs.declared.geo.Row.{Row}
use Rattle.sop_model.specs.declared.geo.Head.{Head}
use Rattle.sop_model.specs.declared.geo.Corner.{Corner}
use Rattle.sop_model.specs.declared.value.Kind.{Kind}
use Rattle.sop_model.specs.declared.value.Kind.TheVariants as kind
use Rattle.sop_model.specs.declared.value.Value.{Value}
use Rattle.sop_model.specs.declared.value.Value.TheVariants as value
use Rattle.sop_model.specs.Geometry.{empty_geo, position_head}
use Rattle.sop_model.specs.Samples.{grouped_point}
use Rattle.geo_text.specs.ValueTexts.{value_text}
use Rattle.geo_text.specs.Listing.{list_text}

vector : ℤ → ℤ → ℤ → Vec3
vector x y z = record { x = x; y = y; z = z }

-- VALUES

whole : value_text (value.Int (negsuc 6)) ≡ codes "-7"
unfolding digits
whole = refl

real : value_text (value.Real (negsuc 1499999)) ≡ codes "-1.5"
unfolding digits
real = refl

three : value_text (value.Vector (vector (pos 0) (negsuc 499999) (pos 2000001))) ≡ codes "0 -0.5 2.000001"
unfolding vector digits
three = refl

plain : value_text (value.Str (codes "a b")) ≡ codes "\"a b\""
plain = refl

-- `"`, `\`, LF, tab, escape and delete, and a byte above 127
escaped : value_text (value.Str (34 ∷ 92 ∷ 10 ∷ 9 ∷ 27 ∷ 127 ∷ 200 ∷ [])) ≡ codes "\"\\\"\\\\\\n\\x09\\x1b\\x7f" ++ 200 ∷ 34 ∷ []
escaped = refl

no_numbers : value_text (value.Ints []) ≡ codes "[]"
no_numbers = refl

numbers : value_text (value.Ints (pos 1 ∷ negsuc 1 ∷ pos 30 ∷ [])) ≡ codes "[1, -2, 30]"
unfolding digits
numbers = refl

reals : value_text (value.Reals (pos 500000 ∷ [])) ≡ codes "[0.5]"
unfolding digits
reals = refl

vectors : value_text (value.Vectors (vector (pos 0) (pos 0) (pos 0) ∷ vector (pos 1000000) (pos 1000000) (pos 1000000) ∷ [])) ≡ codes "[0 0 0, 1 1 1]"
unfolding vector digits
vectors = refl

strings : value_text (value.Strs (codes "a" ∷ [] ∷ codes "," ∷ [])) ≡ codes "[\"a\", \"\", \",\"]"
strings = refl

-- GEOMETRIES

empty_listed : list_text empty_geo ≡ codes "points 0\nvertices 0\nprims 0\nattr point vector P\n"
unfolding digits
empty_listed = refl

-- a point in the group `g`, and a closed primitive of one vertex on it
one_listed : list_text (grouped_point (vector (pos 0) (pos 1500000) (pos 0))) ≡ codes "points 1\nvertices 1\nprims 1\nprim 0 closed 0\nattr point vector P\n0 1.5 0\ngroup point g 0\n"
unfolding vector digits
one_listed = refl

head : List ℕ → Kind → Head
head name kind = record { name = name; kind = kind }

point : Vec3 → Value → Bool → Bool → Row
point at v first second = record { values = value.Vector at ∷ v ∷ []; flags = first ∷ second ∷ [] }

corner : ℕ → ℤ → Corner
corner point n = record { point = point; row = record { values = value.Int n ∷ []; flags = [] } }

-- three points with the text `s` and the groups `a` and `b`, a line and a triangle with the primitive group `p`, vertices with the number `n`,
-- a detail with two lists
whole_geo : Geo
whole_geo = record {
  detail = record { heads = head (codes "k") kind.Ints ∷ head (codes "t") kind.Strs ∷ []; groups = [] };
  prim = record { heads = []; groups = codes "p" ∷ [] };
  point = record { heads = position_head ∷ head (codes "s") kind.Str ∷ []; groups = codes "a" ∷ codes "b" ∷ [] };
  vertex = record { heads = head (codes "n") kind.Int ∷ []; groups = [] };
  points = point (vector (pos 0) (pos 0) (pos 0)) (value.Str (codes "x")) true false
      ∷ point (vector (pos 1000000) (pos 0) (pos 0)) (value.Str []) false false
      ∷ point (vector (pos 2000000) (pos 0) (pos 0)) (value.Str (codes "y")) true false ∷ [];
  prims = record { closed = false; row = record { values = []; flags = false ∷ [] }; corners = corner 0 (pos 7) ∷ corner 2 (pos 8) ∷ [] }
      ∷ record { closed = true; row = record { values = []; flags = true ∷ [] }; corners = corner 2 (pos 9) ∷ corner 1 (pos 10) ∷ corner 0 (pos 11) ∷ [] } ∷ [];
  detail_row = record { values = value.Ints (pos 1 ∷ pos 2 ∷ []) ∷ value.Strs [] ∷ []; flags = [] };
}

whole_text : List ℕ
whole_text =
    codes "points 3\nvertices 5\nprims 2\nprim 0 open 0 2\nprim 1 closed 2 1 0\n"
    ++ codes "attr detail int[] k\n[1, 2]\nattr detail string[] t\n[]\n"
    ++ codes "attr point vector P\n0 0 0\n1 0 0\n2 0 0\nattr point string s\n\"x\"\n\"\"\n\"y\"\n"
    ++ codes "attr vertex int n\n7\n8\n9\n10\n11\n"
    ++ codes "group prim p 1\ngroup point a 0 2\ngroup point b\n"

whole_listed : list_text whole_geo ≡ whole_text
unfolding whole_geo whole_text head point corner vector digits
whole_listed = refl

-- Worked examples: what the definitions say of names, values, limits, faults, vertices and merges, by computation.
use Rattle.std.specs.Prelude.{◌≡◌, refl, ℕ, pos, negsuc, true, false, List, [], ◌∷◌, None, Some, codes, replicate}
use Rattle.sop_model.specs.declared.geo.Geo.{Geo}
use Rattle.sop_model.specs.declared.geo.Head.{Head}
use Rattle.sop_model.specs.declared.geo.HeadSet.{HeadSet}
use Rattle.sop_model.specs.declared.geo.Corner.{Corner}
use Rattle.sop_model.specs.declared.geo.Primitive.{Primitive}
use Rattle.sop_model.specs.declared.value.Kind.TheVariants as kind
use Rattle.sop_model.specs.declared.value.Value.TheVariants as value
use Rattle.sop_model.specs.Values.{put, weight_of, is_value_within, zero_vector}
use Rattle.sop_model.specs.Vertices.{first_vertex_in, prim_in, longer_prims}
use Rattle.sop_model.specs.Names.{is_name}
use Rattle.sop_model.specs.Geometry.{empty_row, no_heads, position_head, empty_geo, at_most, are_kept, fits, geo_weight}
use Rattle.sop_model.specs.Limits.{most_heads, most_groups}
use Rattle.sop_model.specs.Faults.{fault_text, is_one_line}
use Rattle.sop_model.specs.declared.fault.Fault.TheVariants as fault
use Rattle.sop_model.specs.Merge.{merged}

-- names
name_of_three : is_name (codes "_a1") ≡ true
name_of_three = refl

name_from_a_digit : is_name (codes "1a") ≡ false
name_from_a_digit = refl

name_with_a_space : is_name (codes "a b") ≡ false
name_with_a_space = refl

name_of_64 : is_name (replicate 64 97) ≡ true
name_of_64 = refl

name_of_65 : is_name (replicate 65 97) ≡ false
name_of_65 = refl

-- a value where a kind is wanted
int_as_real : put kind.Real (value.Int (pos 3)) ≡ Some (value.Real (pos 3000000))
int_as_real = refl

real_cut_toward_zero : put kind.Int (value.Real (negsuc 1499999)) ≡ Some (value.Int (negsuc 0))
real_cut_toward_zero = refl

int_beyond_reals : put kind.Real (value.Int (pos 2000000000)) ≡ None
int_beyond_reals = refl

int_largest_real : put kind.Real (value.Int (negsuc 999999999)) ≡ Some (value.Real (negsuc 999999999999999))
int_largest_real = refl

int_as_list : put kind.Ints (value.Int (pos 3)) ≡ None
int_as_list = refl

-- weights
weight_of_7 : weight_of (value.Str (codes "seven b")) ≡ 1
weight_of_7 = refl

weight_of_8 : weight_of (value.Str (codes "eight by")) ≡ 2
weight_of_8 = refl

weight_of_vectors : weight_of (value.Vectors (zero_vector ∷ zero_vector ∷ [])) ≡ 7
weight_of_vectors = refl

weight_of_texts : weight_of (value.Strs (codes "eight by" ∷ [] ∷ [])) ≡ 4
weight_of_texts = refl

-- limits of values
text_of_4096 : is_value_within (value.Str (replicate 4096 97)) ≡ true
text_of_4096 = refl

text_of_4097 : is_value_within (value.Strs (codes "a" ∷ replicate 4097 97 ∷ [])) ≡ false
text_of_4097 = refl

-- lines
fault_on_a_line : is_one_line (fault_text (fault.NotCompilable (codes "box1"))) ≡ true
fault_on_a_line = refl

fault_on_two : is_one_line (fault_text (fault.Leaks (codes "a\nb"))) ≡ false
fault_on_two = refl

-- a triangle on the points 0, 1 and 2, then a line on the points 2 and 0
corner_at : ℕ → Corner
corner_at point = record { point = point; row = empty_row }

triangle : Primitive
triangle = record { closed = true; row = empty_row; corners = corner_at 0 ∷ corner_at 1 ∷ corner_at 2 ∷ [] }

line : Primitive
line = record { closed = false; row = empty_row; corners = corner_at 2 ∷ corner_at 0 ∷ [] }

shapes : List Primitive
shapes = triangle ∷ line ∷ []

first_of_line : first_vertex_in shapes 1 ≡ 3
unfolding shapes triangle line
first_of_line = refl

past_all : first_vertex_in shapes 2 ≡ 5
unfolding shapes triangle line
past_all = refl

in_line : prim_in shapes 3 ≡ 1
unfolding shapes triangle line
in_line = refl

in_none : prim_in shapes 5 ≡ 2
unfolding shapes triangle line
in_none = refl

-- two vertices for the line and one for the triangle, in turn
longer_shapes : longer_prims ((1, corner_at 5) ∷ (0, corner_at 6) ∷ (1, corner_at 7) ∷ []) shapes
    ≡ record { closed = true; row = empty_row; corners = corner_at 0 ∷ corner_at 1 ∷ corner_at 2 ∷ corner_at 6 ∷ [] }
    ∷ record { closed = false; row = empty_row; corners = corner_at 2 ∷ corner_at 0 ∷ corner_at 5 ∷ corner_at 7 ∷ [] } ∷ []
unfolding shapes triangle line
longer_shapes = refl

-- merges
merge_of_none : merged [] ≡ empty_geo
merge_of_none = refl

empty_fits : fits empty_geo ≡ true
empty_fits = refl

one_too_many : are_kept (at_most 64 most_heads ∷ at_most 257 most_groups ∷ []) ≡ false
one_too_many = refl

-- two geometries with a group `g` of points: the second has also the whole numbers `n` of points, and a detail value
number_head : Head
number_head = record { name = codes "n"; kind = kind.Int }

position_set : HeadSet
position_set = record { heads = position_head ∷ []; groups = codes "g" ∷ [] }

numbered_set : HeadSet
numbered_set = record { heads = position_head ∷ number_head ∷ []; groups = codes "h" ∷ codes "g" ∷ [] }

numbers : HeadSet
numbers = record { heads = number_head ∷ []; groups = [] }

first : Geo
first = record {
  detail = no_heads;
  prim = no_heads;
  point = position_set;
  vertex = no_heads;
  points = record { values = value.Vector zero_vector ∷ []; flags = true ∷ [] } ∷ record { values = value.Vector zero_vector ∷ []; flags = false ∷ [] } ∷ [];
  prims = record { closed = false; row = empty_row; corners = corner_at 1 ∷ [] } ∷ [];
  detail_row = empty_row;
}

second : Geo
second = record {
  detail = numbers;
  prim = no_heads;
  point = numbered_set;
  vertex = no_heads;
  points = record { values = value.Vector zero_vector ∷ value.Int (pos 7) ∷ []; flags = false ∷ true ∷ [] } ∷ [];
  prims = record { closed = true; row = empty_row; corners = corner_at 0 ∷ [] } ∷ [];
  detail_row = record { values = value.Int (pos 9) ∷ []; flags = [] };
}

-- the points of the first get the default 0, groups come by first appearance, and the second's vertex refers to point 2
both : Geo
both = record {
  detail = numbers;
  prim = no_heads;
  vertex = no_heads;
  point = record { heads = position_head ∷ number_head ∷ []; groups = codes "g" ∷ codes "h" ∷ [] };
  points = record { values = value.Vector zero_vector ∷ value.Int (pos 0) ∷ []; flags = true ∷ false ∷ [] }
      ∷ record { values = value.Vector zero_vector ∷ value.Int (pos 0) ∷ []; flags = false ∷ false ∷ [] }
      ∷ record { values = value.Vector zero_vector ∷ value.Int (pos 7) ∷ []; flags = true ∷ false ∷ [] } ∷ [];
  prims = record { closed = false; row = empty_row; corners = corner_at 1 ∷ [] } ∷ record { closed = true; row = empty_row; corners = corner_at 2 ∷ [] } ∷ [];
  detail_row = record { values = value.Int (pos 9) ∷ []; flags = [] };
}

merge_of_two : merged (first ∷ second ∷ []) ≡ both
unfolding first second both position_set numbered_set numbers number_head corner_at
merge_of_two = refl

-- three vectors, one whole number and the detail's
weight_of_both : geo_weight both ≡ 13
unfolding both numbers number_head corner_at
weight_of_both = refl

-- What combining nodes give, computed: each geometry as its listing, each fault as its text.
use Rattle.std.proofs.Common.{◌≡◌, ℕ, List, [], ◌∷◌, ◌++◌, refl, Option, Some, None, Ok, Err}
use Rattle.std.specs.Prelude.{codes, slice_set, bytes_eq}
use Rattle.std.specs.Fmt.{digits}
use Rattle.std.specs.List.{position_or_len}
use Rattle.sop_model.specs.declared.geo.Geo.{Geo}
use Rattle.sop_model.specs.Faults.{fault_text}
use Rattle.geo_text.specs.Listing.{list_text}
use Rattle.sop_net.specs.declared.node_type.NodeType.{NodeType}
use Rattle.sop_net.specs.declared.node_type.NodeType.TheVariants as type
use Rattle.sop_net.specs.NodeTable.{parms_of, default_parms}
use Rattle.sop_basic.specs.declared.loaded.LoadedFile.TheVariants.{Missing}
use Rattle.sop_basic.specs.Outcomes.{Outcome, then_with, limited}
use Rattle.sop_basic.specs.Basic.{basic_geo}
use Rattle.sop_combine.specs.CopyToPoints.{copytopoints_geo}
use Rattle.sop_combine.specs.Combine.{combine_geo}

-- the texts of a type's parameters, some of them set by name
abbrev with : NodeType → List (List ℕ × List ℕ) → List (List ℕ)
with node_type [] = default_parms node_type
with node_type (p ∷ pairs) = slice_set (with node_type pairs) (position_or_len (λ q. bytes_eq q.name p.0) (parms_of node_type)) p.1

-- what a node makes of the geometries of others
abbrev inputs_of : List Outcome → List (Option Geo)
inputs_of [] = []
inputs_of (Ok g ∷ others) = Some g ∷ inputs_of others
inputs_of (Err f ∷ others) = None ∷ inputs_of others

abbrev basic : NodeType → List (List ℕ × List ℕ) → List Outcome → Outcome
basic node_type pairs inputs = basic_geo (λ name. Missing) node_type (with node_type pairs) (inputs_of inputs)

abbrev node : NodeType → List (List ℕ × List ℕ) → List Outcome → Outcome
node node_type pairs inputs = combine_geo node_type (with node_type pairs) (inputs_of inputs)

abbrev told : Outcome → List ℕ
told (Ok g) = list_text g
told (Err f) = fault_text f

-- an open primitive through three points
abbrev three : Outcome
three = basic type.Line ((codes "points", codes "3") ∷ (codes "dist", codes "2") ∷ []) []

abbrev two : Outcome
two = basic type.Line [] []

-- BLAST

blast_all : told (node type.Blast [] (three ∷ [])) ≡ codes "points 0\nvertices 0\nprims 0\nattr point vector P\n"
unfolding digits
blast_all = refl

blast_leaves_points : told (node type.Blast ((codes "unused", codes "0") ∷ []) (three ∷ [])) ≡ codes "points 3\nvertices 0\nprims 0\nattr point vector P\n0 0 0\n0 1 0\n0 2 0\n"
unfolding digits
blast_leaves_points = refl

blast_point : told (node type.Blast ((codes "class", codes "point") ∷ (codes "group", codes "1") ∷ []) (three ∷ [])) ≡ codes "points 2\nvertices 2\nprims 1\nprim 0 open 0 1\nattr point vector P\n0 0 0\n0 2 0\n"
unfolding digits
blast_point = refl

blast_other_points : told (node type.Blast ((codes "class", codes "point") ∷ (codes "group", codes "1") ∷ (codes "negate", codes "1") ∷ []) (three ∷ [])) ≡ codes "points 1\nvertices 1\nprims 1\nprim 0 open 0\nattr point vector P\n0 1 0\n"
unfolding digits
blast_other_points = refl

blast_vertices : told (node type.Blast ((codes "class", codes "vertex") ∷ (codes "group", codes "0-1") ∷ []) (three ∷ [])) ≡ codes "points 3\nvertices 1\nprims 1\nprim 0 open 2\nattr point vector P\n0 0 0\n0 1 0\n0 2 0\n"
unfolding digits
blast_vertices = refl

-- points of a box: each side loses those of its vertices, and one side all
blast_box : told (node type.Blast ((codes "class", codes "point") ∷ (codes "group", codes "3 0-4 ^_* 0") ∷ []) (basic type.Box [] [] ∷ []))
    ≡ codes "points 3\nvertices 9\nprims 5\nprim 0 closed 0 2 1\nprim 1 closed 0\nprim 2 closed 1 2\nprim 3 closed 1\nprim 4 closed 2 0\nattr point vector P\n0.5 -0.5 0.5\n-0.5 0.5 0.5\n0.5 0.5 0.5\n"
unfolding digits
blast_box = refl

blast_bad_word : told (node type.Blast ((codes "group", codes "x 2x") ∷ []) (three ∷ [])) ≡ codes "BadGroup 1"
unfolding digits
blast_bad_word = refl

blast_no_group : told (node type.Blast ((codes "group", codes "0 x") ∷ []) (three ∷ [])) ≡ codes "NoGroup 1"
unfolding digits
blast_no_group = refl

blast_needs_an_input : told (node type.Blast [] (basic type.Null [] [] ∷ [])) ≡ codes "NoInput 0"
unfolding digits
blast_needs_an_input = refl

-- GROUPCREATE

abbrev grouped : List ℕ → List ℕ → List ℕ → Outcome → Outcome
grouped name group op input = node type.GroupCreate ((codes "name", name) ∷ (codes "group", group) ∷ (codes "op", op) ∷ []) (input ∷ [])

abbrev ends : Outcome
ends = grouped (codes "g") (codes "0 2") (codes "replace") three

abbrev with_members : List ℕ → List ℕ
with_members text = codes "points 3\nvertices 3\nprims 1\nprim 0 open 0 1 2\nattr point vector P\n0 0 0\n0 1 0\n0 2 0\n" ++ text

group_made : told ends ≡ with_members (codes "group point g 0 2\n")
unfolding digits
group_made = refl

group_replaced : told (grouped (codes "g") (codes "1") (codes "replace") ends) ≡ with_members (codes "group point g 1\n")
unfolding digits
group_replaced = refl

group_united : told (grouped (codes "g") (codes "1") (codes "union") ends) ≡ with_members (codes "group point g 0 1 2\n")
unfolding digits
group_united = refl

group_intersected : told (grouped (codes "g") (codes "1-2") (codes "intersect") ends) ≡ with_members (codes "group point g 2\n")
unfolding digits
group_intersected = refl

group_subtracted : told (grouped (codes "g") (codes "1-2") (codes "subtract") ends) ≡ with_members (codes "group point g 0\n")
unfolding digits
group_subtracted = refl

-- a new group has no old members
group_new_subtracted : told (grouped (codes "h") (codes "1-2") (codes "subtract") ends) ≡ with_members (codes "group point g 0 2\ngroup point h\n")
unfolding digits
group_new_subtracted = refl

-- of the group itself, as it was
group_of_others : told (grouped (codes "g") (codes "!g") (codes "replace") ends) ≡ with_members (codes "group point g 1\n")
unfolding digits
group_of_others = refl

group_of_prims : told (node type.GroupCreate ((codes "class", codes "prim") ∷ (codes "name", codes "g") ∷ []) (ends ∷ [])) ≡ with_members (codes "group prim g 0\ngroup point g 0 2\n")
unfolding digits
group_of_prims = refl

-- the pattern is judged before the group is made
group_of_itself : told (grouped (codes "h") (codes "0 h") (codes "replace") ends) ≡ codes "NoGroup 1"
unfolding digits
group_of_itself = refl

group_bad_name_first : told (grouped (codes "1h") (codes "2x") (codes "replace") ends) ≡ codes "BadParm"
group_bad_name_first = refl

-- MERGE

-- an input that lacks a geometry adds nothing
merged_two : told (node type.Merge [] (ends ∷ basic type.Null [] [] ∷ two ∷ [])) ≡ codes "points 5\nvertices 5\nprims 2\nprim 0 open 0 1 2\nprim 1 open 3 4\nattr point vector P\n0 0 0\n0 1 0\n0 2 0\n0 0 0\n0 1 0\ngroup point g 0 2\n"
unfolding digits
merged_two = refl

merged_none : told (node type.Merge [] []) ≡ codes "points 0\nvertices 0\nprims 0\nattr point vector P\n"
unfolding digits
merged_none = refl

-- COPYTOPOINTS

abbrev copied : List ℕ → Outcome → Outcome → Outcome
copied group input targets = then_with input (λ g. then_with targets (λ t. limited (copytopoints_geo (group ∷ []) g t)))

abbrev scaled : List ℕ → List ℕ → Outcome → Outcome
scaled kind value input = basic type.AttribCreate ((codes "name", codes "pscale") ∷ (codes "kind", kind) ∷ (codes "value", value) ∷ []) (input ∷ [])

abbrev one_open : Outcome
one_open = basic type.Add ((codes "points", codes "-1 2 0") ∷ (codes "poly", codes "open") ∷ []) []

copy_to_itself : told (copied [] one_open one_open) ≡ codes "points 1\nvertices 1\nprims 1\nprim 0 open 0\nattr point vector P\n-2 4 0\n"
unfolding digits
copy_to_itself = refl

copies_scaled : told (copied (codes "0 2") two (scaled (codes "float") (codes "2") three)) ≡ codes "points 4\nvertices 4\nprims 2\nprim 0 open 0 1\nprim 1 open 2 3\nattr point vector P\n0 0 0\n0 2 0\n0 2 0\n0 4 0\n"
unfolding digits
copies_scaled = refl

-- another kind of `pscale` is none, and that of the first input is an attribute like others
copies_unscaled : told (copied (codes "1") (scaled (codes "float") (codes "2") two) (scaled (codes "int") (codes "2") three))
    ≡ codes "points 2\nvertices 2\nprims 1\nprim 0 open 0 1\nattr point vector P\n0 1 0\n0 2 0\nattr point float pscale\n2\n2\n"
unfolding digits
copies_unscaled = refl

copies_with_groups : told (copied (codes "0-1") ends two)
    ≡ codes "points 6\nvertices 6\nprims 2\nprim 0 open 0 1 2\nprim 1 open 3 4 5\nattr point vector P\n0 0 0\n0 1 0\n0 2 0\n0 1 0\n0 2 0\n0 3 0\ngroup point g 0 2 3 5\n"
unfolding digits
copies_with_groups = refl

no_copies : told (copied (codes "9") ends two) ≡ codes "points 0\nvertices 0\nprims 0\nattr point vector P\ngroup point g\n"
unfolding digits
no_copies = refl

abbrev far : Outcome
far = basic type.Line ((codes "dist", codes "1e9") ∷ []) []

copy_out_of_range : told (copied [] far three) ≡ codes "Range 1"
unfolding digits
copy_out_of_range = refl

-- a target that isn't selected takes no copy
copy_not_selected : told (copied (codes "0") far three) ≡ codes "points 2\nvertices 2\nprims 1\nprim 0 open 0 1\nattr point vector P\n0 0 0\n0 1000000000 0\n"
unfolding digits
copy_not_selected = refl

copies_bad_word : told (copied (codes "!!1") far three) ≡ codes "BadGroup 0"
unfolding digits
copies_bad_word = refl

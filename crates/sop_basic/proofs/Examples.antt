-- What basic nodes give, computed: each geometry as its listing, each fault as its text.
use Rattle.std.proofs.Common.{◌≡◌, ℕ, List, [], ◌∷◌, refl, Option, Some, None, Ok, Err}
use Rattle.std.specs.Prelude.{codes, slice_set, bytes_eq}
use Rattle.std.specs.Fmt.{digits}
use Rattle.std.specs.List.{position_or_len}
use Rattle.sop_model.specs.declared.geo.Geo.{Geo}
use Rattle.sop_model.specs.Faults.{fault_text}
use Rattle.geo_text.specs.Listing.{list_text}
use Rattle.sop_net.specs.declared.node_type.NodeType.{NodeType}
use Rattle.sop_net.specs.declared.node_type.NodeType.TheVariants as type
use Rattle.sop_net.specs.NodeTable.{parms_of, default_parms}
use Rattle.sop_basic.specs.declared.loaded.LoadedFile.{LoadedFile}
use Rattle.sop_basic.specs.declared.loaded.LoadedFile.TheVariants.{Bytes, Missing, TooLong}
use Rattle.sop_basic.specs.Loads.{FileMap}
use Rattle.sop_basic.specs.Outcomes.{Outcome}
use Rattle.sop_basic.specs.Basic.{basic_geo}

abbrev no_files : FileMap
no_files name = Missing

-- the texts of a type's parameters, some of them set by name
abbrev with : NodeType → List (List ℕ × List ℕ) → List (List ℕ)
with node_type [] = default_parms node_type
with node_type (p ∷ pairs) = slice_set (with node_type pairs) (position_or_len (λ q. bytes_eq q.name p.0) (parms_of node_type)) p.1

-- what a node makes of the geometries of others
abbrev inputs_of : List Outcome → List (Option Geo)
inputs_of [] = []
inputs_of (Ok g ∷ others) = Some g ∷ inputs_of others
inputs_of (Err f ∷ others) = None ∷ inputs_of others

abbrev node : NodeType → List (List ℕ × List ℕ) → List Outcome → Outcome
node node_type pairs inputs = basic_geo no_files node_type (with node_type pairs) (inputs_of inputs)

abbrev told : Outcome → List ℕ
told (Ok g) = list_text g
told (Err f) = fault_text f

-- LINE

abbrev three : Outcome
three = node type.Line ((codes "points", codes "3") ∷ (codes "dist", codes "2") ∷ []) []

line_of_three : told three ≡ codes "points 3\nvertices 3\nprims 1\nprim 0 open 0 1 2\nattr point vector P\n0 0 0\n0 1 0\n0 2 0\n"
unfolding digits
line_of_three = refl

line_of_one : told (node type.Line ((codes "points", codes "1") ∷ (codes "origin", codes "1 2 3") ∷ []) []) ≡ codes "points 1\nvertices 1\nprims 1\nprim 0 open 0\nattr point vector P\n1 2 3\n"
unfolding digits
line_of_one = refl

-- the way is rounded before it is multiplied
line_rounded : told (node type.Line ((codes "points", codes "4") ∷ (codes "dir", codes "3 0 0") ∷ []) []) ≡ codes "points 4\nvertices 4\nprims 1\nprim 0 open 0 1 2 3\nattr point vector P\n0 0 0\n0.999999 0 0\n2.000001 0 0\n3 0 0\n"
unfolding digits
line_rounded = refl

line_out_of_range : told (node type.Line ((codes "origin", codes "0 1e9 0") ∷ []) []) ≡ codes "Range 1"
unfolding digits
line_out_of_range = refl

-- GRID

grid_of_four : told (node type.Grid ((codes "rows", codes "2") ∷ (codes "cols", codes "2") ∷ []) []) ≡ codes "points 4\nvertices 4\nprims 1\nprim 0 closed 0 1 3 2\nattr point vector P\n-5 0 -5\n5 0 -5\n-5 0 5\n5 0 5\n"
unfolding digits
grid_of_four = refl

grid_of_a_row : told (node type.Grid ((codes "rows", codes "1") ∷ (codes "cols", codes "3") ∷ (codes "sizex", codes "0.000005") ∷ []) []) ≡ codes "points 3\nvertices 0\nprims 0\nattr point vector P\n-0.000003 0 0\n0 0 0\n0.000003 0 0\n"
unfolding digits
grid_of_a_row = refl

grid_of_two_rows : told (node type.Grid ((codes "rows", codes "2") ∷ (codes "cols", codes "3") ∷ []) []) ≡ codes "points 6\nvertices 8\nprims 2\nprim 0 closed 0 1 4 3\nprim 1 closed 1 2 5 4\nattr point vector P\n-5 0 -5\n0 0 -5\n5 0 -5\n-5 0 5\n0 0 5\n5 0 5\n"
unfolding digits
grid_of_two_rows = refl

-- BOX

box : told (node type.Box ((codes "size", codes "2 4 6") ∷ (codes "center", codes "1 0 0") ∷ []) [])
    ≡ codes "points 8\nvertices 24\nprims 6\nprim 0 closed 0 2 3 1\nprim 1 closed 4 5 7 6\nprim 2 closed 0 1 5 4\nprim 3 closed 2 6 7 3\nprim 4 closed 0 4 6 2\nprim 5 closed 1 3 7 5\nattr point vector P\n0 -2 -3\n2 -2 -3\n0 2 -3\n2 2 -3\n0 -2 3\n2 -2 3\n0 2 3\n2 2 3\n"
unfolding digits
box = refl

-- the second point is the first with x above the center
box_out_of_range : told (node type.Box ((codes "center", codes "1e9 0 0") ∷ []) []) ≡ codes "Range 1"
unfolding digits
box_out_of_range = refl

-- ADD

add_open : told (node type.Add ((codes "points", codes "0 0 0 1 0 0") ∷ (codes "poly", codes "open") ∷ []) []) ≡ codes "points 2\nvertices 2\nprims 1\nprim 0 open 0 1\nattr point vector P\n0 0 0\n1 0 0\n"
unfolding digits
add_open = refl

add_nothing : told (node type.Add ((codes "poly", codes "closed") ∷ []) []) ≡ codes "points 0\nvertices 0\nprims 0\nattr point vector P\n"
unfolding digits
add_nothing = refl

-- behind the points of an input, with the defaults of its attributes
add_behind : told (node type.Add ((codes "points", codes "7 7 7") ∷ (codes "poly", codes "closed") ∷ []) (node type.Enumerate [] (three ∷ []) ∷ []))
    ≡ codes "points 4\nvertices 4\nprims 2\nprim 0 open 0 1 2\nprim 1 closed 3\nattr point vector P\n0 0 0\n0 1 0\n0 2 0\n7 7 7\nattr point int index\n0\n1\n2\n0\n"
unfolding digits
add_behind = refl

-- NULL AND SWITCH

null_hands_on : told (node type.Null [] (three ∷ [])) ≡ told three
null_hands_on = refl

-- of a switch the one that it takes is there
switch_takes_one : told (node type.Switch ((codes "input", codes "1") ∷ []) (three ∷ [])) ≡ told three
switch_takes_one = refl

switch_needs_its_own : told (basic_geo no_files type.Switch (with type.Switch ((codes "input", codes "2") ∷ [])) (None ∷ [])) ≡ codes "NoInput 2"
unfolding digits
switch_needs_its_own = refl

-- XFORM

xform_some : told (node type.Xform ((codes "t", codes "1 0 0") ∷ (codes "s", codes "1 0.5 1") ∷ (codes "group", codes "1-9") ∷ []) (three ∷ []))
    ≡ codes "points 3\nvertices 3\nprims 1\nprim 0 open 0 1 2\nattr point vector P\n0 0 0\n1 0.5 0\n1 1 0\n"
unfolding digits
xform_some = refl

xform_out_of_range : told (node type.Xform ((codes "s", codes "1 1e9 1") ∷ []) (three ∷ [])) ≡ codes "Range 2"
unfolding digits
xform_out_of_range = refl

-- a point that isn't selected isn't moved
xform_not_selected : told (node type.Xform ((codes "s", codes "1 1e9 1") ∷ (codes "group", codes "!2") ∷ []) (three ∷ []))
    ≡ codes "points 3\nvertices 3\nprims 1\nprim 0 open 0 1 2\nattr point vector P\n0 0 0\n0 1000000000 0\n0 2 0\n"
unfolding digits
xform_not_selected = refl

-- ATTRIBCREATE

abbrev attribute : List ℕ → List ℕ → List ℕ → List ℕ → Outcome
attribute class name kind value = node type.AttribCreate ((codes "class", class) ∷ (codes "name", name) ∷ (codes "kind", kind) ∷ (codes "value", value) ∷ []) (three ∷ [])

create_int : told (attribute (codes "detail") (codes "a") (codes "int") (codes "-07"))
    ≡ codes "points 3\nvertices 3\nprims 1\nprim 0 open 0 1 2\nattr detail int a\n-7\nattr point vector P\n0 0 0\n0 1 0\n0 2 0\n"
unfolding digits
create_int = refl

create_float : told (attribute (codes "prim") (codes "a") (codes "float") (codes "-.5"))
    ≡ codes "points 3\nvertices 3\nprims 1\nprim 0 open 0 1 2\nattr prim float a\n-0.5\nattr point vector P\n0 0 0\n0 1 0\n0 2 0\n"
unfolding digits
create_float = refl

create_vector : told (attribute (codes "vertex") (codes "a") (codes "vector") (codes " 1 2\t3"))
    ≡ codes "points 3\nvertices 3\nprims 1\nprim 0 open 0 1 2\nattr point vector P\n0 0 0\n0 1 0\n0 2 0\nattr vertex vector a\n1 2 3\n1 2 3\n1 2 3\n"
unfolding digits
create_vector = refl

create_string : told (attribute (codes "prim") (codes "a") (codes "string") (codes " b"))
    ≡ codes "points 3\nvertices 3\nprims 1\nprim 0 open 0 1 2\nattr prim string a\n\" b\"\nattr point vector P\n0 0 0\n0 1 0\n0 2 0\n"
unfolding digits
create_string = refl

create_default : told (attribute (codes "prim") (codes "a") (codes "vector") [])
    ≡ codes "points 3\nvertices 3\nprims 1\nprim 0 open 0 1 2\nattr prim vector a\n0 0 0\nattr point vector P\n0 0 0\n0 1 0\n0 2 0\n"
unfolding digits
create_default = refl

-- `P` of points takes a vector alone, `P` of another class any kind
create_places : told (attribute (codes "point") (codes "P") (codes "vector") (codes "5 0 0"))
    ≡ codes "points 3\nvertices 3\nprims 1\nprim 0 open 0 1 2\nattr point vector P\n5 0 0\n5 0 0\n5 0 0\n"
unfolding digits
create_places = refl

create_no_place : told (attribute (codes "point") (codes "P") (codes "float") (codes "5")) ≡ codes "BadParm"
create_no_place = refl

create_p_of_prims : told (attribute (codes "prim") (codes "P") (codes "int") (codes "5"))
    ≡ codes "points 3\nvertices 3\nprims 1\nprim 0 open 0 1 2\nattr prim int P\n5\nattr point vector P\n0 0 0\n0 1 0\n0 2 0\n"
unfolding digits
create_p_of_prims = refl

create_no_name : told (attribute (codes "point") [] (codes "int") (codes "5")) ≡ codes "BadParm"
create_no_name = refl

int_with_plus : told (attribute (codes "point") (codes "a") (codes "int") (codes "+5")) ≡ codes "BadParm"
int_with_plus = refl

int_past_the_last : told (attribute (codes "point") (codes "a") (codes "int") (codes "2147483648")) ≡ codes "BadParm"
int_past_the_last = refl

float_with_a_blank : told (attribute (codes "point") (codes "a") (codes "float") (codes " 1")) ≡ codes "BadParm"
float_with_a_blank = refl

vector_of_blanks : told (attribute (codes "point") (codes "a") (codes "vector") (codes "  ")) ≡ codes "BadParm"
vector_of_blanks = refl

-- one kind in the place of another goes last; of the same kind it stays, and so do the values that aren't selected
abbrev counted : Outcome
counted = node type.Enumerate ((codes "name", codes "a") ∷ []) (three ∷ [])

abbrev counted_and_named : Outcome
counted_and_named = node type.AttribCreate ((codes "name", codes "b") ∷ (codes "kind", codes "string") ∷ []) (counted ∷ [])

create_anew : told (node type.AttribCreate ((codes "name", codes "a") ∷ (codes "value", codes "1.5") ∷ (codes "group", codes "0 2") ∷ []) (counted_and_named ∷ []))
    ≡ codes "points 3\nvertices 3\nprims 1\nprim 0 open 0 1 2\nattr point vector P\n0 0 0\n0 1 0\n0 2 0\nattr point string b\n\"\"\n\"\"\n\"\"\nattr point float a\n1.5\n0\n1.5\n"
unfolding digits
create_anew = refl

create_over : told (node type.AttribCreate ((codes "name", codes "a") ∷ (codes "kind", codes "int") ∷ (codes "value", codes "9") ∷ (codes "group", codes "1") ∷ []) (counted_and_named ∷ []))
    ≡ codes "points 3\nvertices 3\nprims 1\nprim 0 open 0 1 2\nattr point vector P\n0 0 0\n0 1 0\n0 2 0\nattr point int a\n0\n9\n2\nattr point string b\n\"\"\n\"\"\n\"\"\n"
unfolding digits
create_over = refl

-- a bad parameter goes before a bad pattern
bad_name_first : told (node type.AttribCreate ((codes "name", codes "1a") ∷ (codes "group", codes "x y") ∷ []) (three ∷ [])) ≡ codes "BadParm"
bad_name_first = refl

bad_word : told (node type.AttribCreate ((codes "name", codes "a") ∷ (codes "group", codes "x 2x") ∷ []) (three ∷ [])) ≡ codes "BadGroup 1"
unfolding digits
bad_word = refl

no_group : told (node type.Enumerate ((codes "class", codes "detail") ∷ (codes "name", codes "a") ∷ (codes "group", codes "0 x") ∷ []) (three ∷ [])) ≡ codes "NoGroup 1"
unfolding digits
no_group = refl

-- ATTRIBDELETE

delete_matching : told (node type.AttribDelete ((codes "names", codes "? c*") ∷ []) (counted_and_named ∷ [])) ≡ told three
delete_matching = refl

delete_none : told (node type.AttribDelete [] (counted_and_named ∷ [])) ≡ told counted_and_named
delete_none = refl

delete_first : told (node type.AttribDelete ((codes "names", codes "a") ∷ []) (counted_and_named ∷ []))
    ≡ codes "points 3\nvertices 3\nprims 1\nprim 0 open 0 1 2\nattr point vector P\n0 0 0\n0 1 0\n0 2 0\nattr point string b\n\"\"\n\"\"\n\"\"\n"
unfolding digits
delete_first = refl

delete_p_of_prims : told (node type.AttribDelete ((codes "class", codes "prim") ∷ (codes "names", codes "P") ∷ []) (attribute (codes "prim") (codes "P") (codes "int") (codes "5") ∷ [])) ≡ told three
delete_p_of_prims = refl

-- ENUMERATE

enumerate_all : told (node type.Enumerate ((codes "name", codes "n") ∷ []) (three ∷ []))
    ≡ codes "points 3\nvertices 3\nprims 1\nprim 0 open 0 1 2\nattr point vector P\n0 0 0\n0 1 0\n0 2 0\nattr point int n\n0\n1\n2\n"
unfolding digits
enumerate_all = refl

enumerate_some : told (node type.Enumerate ((codes "class", codes "vertex") ∷ (codes "group", codes "!1") ∷ []) (three ∷ []))
    ≡ codes "points 3\nvertices 3\nprims 1\nprim 0 open 0 1 2\nattr point vector P\n0 0 0\n0 1 0\n0 2 0\nattr vertex int index\n0\n0\n1\n"
unfolding digits
enumerate_some = refl

enumerate_places : told (node type.Enumerate ((codes "name", codes "P") ∷ []) (three ∷ [])) ≡ codes "BadParm"
enumerate_places = refl

needs_an_input : told (node type.Enumerate ((codes "name", codes "P") ∷ []) []) ≡ codes "NoInput 0"
unfolding digits
needs_an_input = refl

-- FILE

abbrev file_of : LoadedFile → List ℕ
file_of file = told (basic_geo (λ name. file) type.File (default_parms type.File) [])

no_file : file_of Missing ≡ codes "NoFile"
no_file = refl

too_long : file_of TooLong ≡ codes "Limit"
too_long = refl

file_of_a_point : file_of (Bytes (codes "v 1 2 3\n")) ≡ codes "points 1\nvertices 0\nprims 0\nattr point vector P\n1 2 3\n"
unfolding digits
file_of_a_point = refl

file_without_a_point : file_of (Bytes (codes "v 0 0 0\nf 0 1 2\n")) ≡ codes "Index 2"
unfolding digits
file_without_a_point = refl

-- A PATTERN OF BLANKS SELECTS ALL, AND A BAD PARAMETER GOES BEFORE A BAD PATTERN

blanks_alone : told (node type.Enumerate ((codes "name", codes "n") ∷ (codes "group", codes "  ") ∷ []) (three ∷ [])) ≡ told (node type.Enumerate ((codes "name", codes "n") ∷ []) (three ∷ []))
blanks_alone = refl

bad_name_before : told (node type.Enumerate ((codes "name", codes "P") ∷ (codes "group", codes "x") ∷ []) (three ∷ [])) ≡ codes "BadParm"
bad_name_before = refl

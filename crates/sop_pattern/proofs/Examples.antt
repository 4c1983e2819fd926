-- The definitions, computed on small patterns over ten points in three groups.
use Rattle.std.proofs.Common.{◌≡◌, ℕ, suc, List, [], ◌∷◌, ◌++◌, Bool, true, false, refl, Result, Ok, Err}
use Rattle.std.specs.Prelude.{codes, map, replicate}
use Rattle.std.specs.List.{range_with_len}
use Rattle.sop_model.specs.declared.geo.Geo.{Geo}
use Rattle.sop_model.specs.declared.geo.Row.{Row}
use Rattle.sop_model.specs.declared.class.Class.TheVariants.{Detail, Point, Vertex}
use Rattle.sop_model.specs.declared.value.Value.TheVariants as value
use Rattle.sop_model.specs.Values.{zero_vector}
use Rattle.sop_model.specs.Geometry.{empty_geo, position_head}
use Rattle.sop_pattern.specs.declared.word.Atom.TheVariants.{Number, Range, Step, Cycle, All, Group, Groups}
use Rattle.sop_pattern.specs.declared.word.Effect.TheVariants.{Adds, AddsOthers, Takes}
use Rattle.sop_pattern.specs.declared.fault.PatternFault.{PatternFault}
use Rattle.sop_pattern.specs.declared.fault.PatternFault.TheVariants.{BadWord, NoGroup}
use Rattle.sop_outside.specs.Blanks.{words_of}
use Rattle.sop_pattern.specs.Words.{pattern_of}
use Rattle.sop_pattern.specs.Wildcard.{matches}
use Rattle.sop_pattern.specs.Selection.{selected}

-- a point, and whether it is in `left`, `left_arm` and `tip`
row : Bool → Bool → Bool → Row
row left arm tip = record { values = value.Vector zero_vector ∷ []; flags = left ∷ arm ∷ tip ∷ [] }

-- ten points, where `left` has 1, 2 and 3, `left_arm` 3 and 4, and `tip` 9
ten : Geo
ten = record empty_geo {
  point = record { heads = position_head ∷ []; groups = codes "left" ∷ codes "left_arm" ∷ codes "tip" ∷ [] };
  points =
      row false false false ∷ row true false false ∷ row true false false ∷ row true true false ∷ row false true false
      ∷ row false false false ∷ row false false false ∷ row false false false ∷ row false false false ∷ row false false true ∷ [];
}

-- the numbers of the flags that are set
set_from : ℕ → List Bool → List ℕ
set_from i [] = []
set_from i (true ∷ flags) = i ∷ set_from (suc i) flags
set_from i (false ∷ flags) = set_from (suc i) flags

numbers : Result (List Bool) PatternFault → Result (List ℕ) PatternFault
numbers (Ok flags) = Ok (set_from 0 flags)
numbers (Err fault) = Err fault

points : List ℕ → Result (List ℕ) PatternFault
points text = numbers (selected ten Point text)

all : List ℕ
all = range_with_len 0 10

-- ---- words
words : words_of (codes " 1\t\t*\r\n^a ") ≡ codes "1" ∷ codes "*" ∷ codes "^a" ∷ []
words = refl

atoms : pattern_of (codes "007 !1-2 ^1-2:3 1-2:0,4 * a_1 ^?x*")
    ≡ Ok (record { effect = Adds; atom = Number 7 } ∷ record { effect = AddsOthers; atom = Range 1 2 } ∷ record { effect = Takes; atom = Step 1 2 3 }
    ∷ record { effect = Adds; atom = Cycle 1 2 0 4 } ∷ record { effect = Adds; atom = All } ∷ record { effect = Adds; atom = Group (codes "a_1") }
    ∷ record { effect = Takes; atom = Groups (codes "?x*") } ∷ [])
atoms = refl

second_is_bad : pattern_of (codes "1 2x") ≡ Err 1
second_is_bad = refl

most_digits : pattern_of (codes "999999999999999999") ≡ Ok (record { effect = Adds; atom = Number 999999999999999999 } ∷ [])
most_digits = refl

too_many_digits : pattern_of (codes "0000000000000000001") ≡ Err 0
too_many_digits = refl

longest_name : pattern_of (replicate 64 97) ≡ Ok (record { effect = Adds; atom = Group (replicate 64 97) } ∷ [])
longest_name = refl

too_long_a_name : pattern_of (replicate 65 97) ≡ Err 0
too_long_a_name = refl

long_wild_word : pattern_of (replicate 65 97 ++ codes "*") ≡ Ok (record { effect = Adds; atom = Groups (replicate 65 97 ++ codes "*") } ∷ [])
long_wild_word = refl

-- what is no word
bad_words : map pattern_of (codes "!" ∷ codes "^" ∷ codes "!!1" ∷ codes "^!1" ∷ codes "1-" ∷ codes "-1" ∷ codes "1-2:" ∷ codes "1-2:0" ∷ codes "1-2:1,0" ∷ codes "2-1:0" ∷ codes "1-2:1,2,3"
    ∷ codes "1:2" ∷ codes "1*" ∷ codes "a-b" ∷ codes "@a" ∷ codes "a.b" ∷ []) ≡ replicate 16 (Err 0)
bad_words = refl

-- ---- names with `*` and `?`
some_match : map (matches (codes "a*b?")) (codes "abc" ∷ codes "axbxbz" ∷ codes "ab" ∷ codes "xabc" ∷ codes "abcd" ∷ []) ≡ true ∷ true ∷ false ∷ false ∷ false ∷ []
some_match = refl

star_is_none_too : map (matches (codes "**")) ([] ∷ codes "a" ∷ []) ≡ true ∷ true ∷ []
star_is_none_too = refl

mark_is_one_byte : map (matches (codes "?")) ([] ∷ codes "a" ∷ codes "aa" ∷ []) ≡ false ∷ true ∷ false ∷ []
mark_is_one_byte = refl

-- ---- selections
no_word : points [] ≡ Ok all
unfolding points numbers set_from ten row all
no_word = refl

blanks_alone : points (codes " \n") ≡ Ok all
unfolding points numbers set_from ten row all
blanks_alone = refl

number : points (codes "3") ≡ Ok (3 ∷ [])
unfolding points numbers set_from ten row
number = refl

no_such_element : points (codes "7 99") ≡ Ok (7 ∷ [])
unfolding points numbers set_from ten row
no_such_element = refl

range : points (codes "2-5") ≡ Ok (2 ∷ 3 ∷ 4 ∷ 5 ∷ [])
unfolding points numbers set_from ten row
range = refl

range_past_the_end : points (codes "8-20") ≡ Ok (8 ∷ 9 ∷ [])
unfolding points numbers set_from ten row
range_past_the_end = refl

range_backwards : points (codes "5-2") ≡ Ok []
unfolding points numbers set_from ten row
range_backwards = refl

step : points (codes "1-9:3") ≡ Ok (1 ∷ 4 ∷ 7 ∷ [])
unfolding points numbers set_from ten row
step = refl

cycle : points (codes "1-9:2,5") ≡ Ok (1 ∷ 2 ∷ 6 ∷ 7 ∷ [])
unfolding points numbers set_from ten row
cycle = refl

all_of_them : points (codes "*") ≡ Ok all
unfolding points numbers set_from ten row all
all_of_them = refl

others : points (codes "!3-9") ≡ Ok (0 ∷ 1 ∷ 2 ∷ [])
unfolding points numbers set_from ten row
others = refl

taken_away : points (codes "* ^0-9:2") ≡ Ok (1 ∷ 3 ∷ 5 ∷ 7 ∷ 9 ∷ [])
unfolding points numbers set_from ten row
taken_away = refl

taken_from_nothing : points (codes "^3 2-4") ≡ Ok (2 ∷ 3 ∷ 4 ∷ [])
unfolding points numbers set_from ten row
taken_from_nothing = refl

four_are_left : points (codes "0-9:2 ^4 !*") ≡ Ok (0 ∷ 2 ∷ 6 ∷ 8 ∷ [])
unfolding points numbers set_from ten row
four_are_left = refl

group : points (codes "left") ≡ Ok (1 ∷ 2 ∷ 3 ∷ [])
unfolding points numbers set_from ten row
group = refl

groups : points (codes "left*") ≡ Ok (1 ∷ 2 ∷ 3 ∷ 4 ∷ [])
unfolding points numbers set_from ten row
groups = refl

one_byte : points (codes "left_?rm t?p") ≡ Ok (3 ∷ 4 ∷ 9 ∷ [])
unfolding points numbers set_from ten row
one_byte = refl

outside_groups : points (codes "!left* ^tip") ≡ Ok (0 ∷ 5 ∷ 6 ∷ 7 ∷ 8 ∷ [])
unfolding points numbers set_from ten row
outside_groups = refl

no_group_matches : points (codes "r*") ≡ Ok []
unfolding points numbers set_from ten row
no_group_matches = refl

-- ---- faults
bad : points (codes "1 2x") ≡ Err (BadWord 1)
unfolding points numbers
bad = refl

missing : points (codes "0 left ^right far") ≡ Err (NoGroup 2)
unfolding points numbers ten row
missing = refl

bad_before_missing : points (codes "right 2x") ≡ Err (BadWord 1)
unfolding points numbers
bad_before_missing = refl

-- ---- other classes
detail : numbers (selected ten Detail (codes "0 7")) ≡ Ok (0 ∷ [])
unfolding numbers set_from ten row
detail = refl

detail_has_no_group : selected ten Detail (codes "left") ≡ Err (NoGroup 0)
unfolding ten row
detail_has_no_group = refl

no_vertex : selected ten Vertex (codes "*") ≡ Ok []
unfolding ten row
no_vertex = refl

group_of_nothing : selected empty_geo Point (codes "g") ≡ Err (NoGroup 0)
group_of_nothing = refl

no_point : selected empty_geo Point (codes "0-9:2 ^4 !*") ≡ Ok []
no_point = refl

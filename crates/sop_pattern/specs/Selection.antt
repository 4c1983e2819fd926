-- What a group pattern selects: one flag for each element of a class.
--
-- Each word's atom holds some elements. The words are read from left to right onto no element: a word adds what its atom holds, behind `!`
-- all but that, and behind `^` it takes it away. A pattern without words selects all elements.
use Rattle.std.specs.Prelude.{◌≡◌, ℕ, ◌-◌, ◌%◌, Bool, true, false, ◌&&◌, ◌||◌, not, nat_le, nat_lt, ◌==◌, List, [], ◌∷◌, map, Option, None, Some, is_some, unwrap_or, Result, Ok, Err, position, slice_get}
use Rattle.std.specs.List.{range_with_len}
use Rattle.std.specs.Option.{option_map}
use Rattle.std.specs.Str.{bytes_eq}
use Rattle.sop_model.specs.declared.class.Class.{Class}
use Rattle.sop_model.specs.declared.geo.Geo.{Geo}
use Rattle.sop_model.specs.Geometry.{heads_of, rows_of, count_of}
use Rattle.sop_pattern.specs.declared.word.Atom.{Atom}
use Rattle.sop_pattern.specs.declared.word.Atom.TheVariants.{Number, Range, Step, Cycle, All, Group, Groups}
use Rattle.sop_pattern.specs.declared.word.Effect.{Effect}
use Rattle.sop_pattern.specs.declared.word.Effect.TheVariants.{Adds, AddsOthers, Takes}
use Rattle.sop_pattern.specs.declared.word.Word.{Word}
use Rattle.sop_pattern.specs.declared.fault.PatternFault.{PatternFault}
use Rattle.sop_pattern.specs.declared.fault.PatternFault.TheVariants.{BadWord, NoGroup, Memory}
use Rattle.sop_pattern.specs.Words.{pattern_of}
use Rattle.sop_pattern.specs.Wildcard.{matches}

abbrev pub is_between : ℕ → ℕ → ℕ → Bool
is_between n m e = nat_le n e && nat_le e m

-- whether the flag of a group whose name passes is set
abbrev pub some_flag : (List ℕ → Bool) → List (List ℕ) → List Bool → Bool
some_flag passes [] flags = false
some_flag passes (name ∷ names) [] = false
some_flag passes (name ∷ names) (flag ∷ flags) = (passes name && flag) || some_flag passes names flags

-- the flags of an element, one for each group of its class
abbrev pub flags_of : Geo → Class → ℕ → List Bool
flags_of g class e = unwrap_or (option_map (λ row. row.flags) (slice_get (rows_of g class) e)) []

-- whether an element is a member of a group whose name passes
abbrev pub is_member : Geo → Class → (List ℕ → Bool) → ℕ → Bool
is_member g class passes e = some_flag passes (heads_of g class).groups (flags_of g class e)

-- whether an atom holds an element
abbrev pub holds : Geo → Class → Atom → ℕ → Bool
holds g class (Number n) e = e == n
holds g class (Range n m) e = is_between n m e
holds g class (Step n m s) e = is_between n m e && ((e - n) % s == 0)
holds g class (Cycle n m a b) e = is_between n m e && nat_lt ((e - n) % b) a
holds g class All e = true
holds g class (Group name) e = is_member g class (bytes_eq name) e
holds g class (Groups pattern) e = is_member g class (matches pattern) e

-- whether an element is selected behind a word, by whether it was before and whether the word's atom holds it
abbrev pub selected_by : Effect → Bool → Bool → Bool
selected_by Adds selected held = selected || held
selected_by AddsOthers selected held = selected || not held
selected_by Takes selected held = selected && not held

-- whether an element is selected behind the words, by whether it was before
abbrev pub selected_after : Geo → Class → Bool → List Word → ℕ → Bool
selected_after g class selected [] e = selected
selected_after g class selected (word ∷ words) e = selected_after g class (selected_by word.effect selected (holds g class word.atom e)) words e

-- whether a pattern of these words selects an element
abbrev pub selects : Geo → Class → List Word → ℕ → Bool
selects g class [] e = true
selects g class (word ∷ words) e = selected_after g class false (word ∷ words) e

-- whether a class has no group of the name that an atom is
abbrev pub lacks_group : Geo → Class → Atom → Bool
lacks_group g class (Group name) = not (is_some (position (λ group. bytes_eq group name) (heads_of g class).groups))
lacks_group g class _ = false

abbrev pub unless_missing : Option ℕ → List Bool → Result (List Bool) ℕ
unless_missing None flags = Ok flags
unless_missing (Some i) flags = Err i

-- The flags of a class's elements, or the number of the first word whose group is missing, from 0.
abbrev pub selection : Geo → Class → List Word → Result (List Bool) ℕ
selection g class words = unless_missing (position (λ word. lacks_group g class word.atom) words) (map (selects g class words) (range_with_len 0 (count_of g class)))

abbrev pub or_no_group : Result (List Bool) ℕ → Result (List Bool) PatternFault
or_no_group (Ok flags) = Ok flags
or_no_group (Err i) = Err (NoGroup i)

abbrev pub selected_or_bad : Geo → Class → Result (List Word) ℕ → Result (List Bool) PatternFault
selected_or_bad g class (Ok words) = or_no_group (selection g class words)
selected_or_bad g class (Err i) = Err (BadWord i)

-- What the pattern of a text selects: BadWord for its first bad word, whatever group is missing, else NoGroup for its first word whose group is
-- missing, else the flags.
abbrev pub selected : Geo → Class → List ℕ → Result (List Bool) PatternFault
selected g class text = selected_or_bad g class (pattern_of text)

-- The fault that `read` gives: never NoGroup.
abbrev pub IsReadFault : Result (List Word) ℕ → PatternFault → Type 0
IsReadFault pattern (BadWord i) = pattern ≡ Err i
IsReadFault pattern (NoGroup i) = ⊥
IsReadFault pattern Memory = Unit {0}

-- The fault that `select` gives: never BadWord.
abbrev pub IsSelectFault : Result (List Bool) ℕ → PatternFault → Type 0
IsSelectFault flags (BadWord i) = ⊥
IsSelectFault flags (NoGroup i) = flags ≡ Err i
IsSelectFault flags Memory = Unit {0}

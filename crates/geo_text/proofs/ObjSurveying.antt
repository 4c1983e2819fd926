-- Lines that are counted one after the other.
use Rattle.std.proofs.Common.{◌≡◌, ℕ, ◌≤◌, List, [], ◌∷◌, map, refl, ap, ◌∙◌, arith, Option, Some, None, true}
use Rattle.std.specs.Borrow.{Bor}
use Rattle.std.proofs.lemmas.Bool.Decides.{nat_tests}
use Rattle.geo_text.specs.declared.obj_fault.ObjFault.{ObjFault}
use Rattle.geo_text.specs.declared.obj_fault.ObjFault.TheVariants as fault
use Rattle.geo_text.specs.declared.reader.Keyword.{Keyword}
use Rattle.geo_text.specs.declared.reader.Keyword.TheVariants as key
use Rattle.geo_text.specs.ObjLines.{joined, words_of}
use Rattle.geo_text.specs.ObjScan.{behind_line, lines_left, joined_left, words_here}
use Rattle.geo_text.specs.ObjSurvey.{Seen, seen_as, shape_seen, key_of, line_seen, all_seen, worded_left, is_past, IsPast}
use Rattle.geo_text.proofs.ObjLooping.{first_line}

others_worded : (rest : Option (List ℕ)) → map words_of (lines_left rest) ≡ worded_left rest
others_worded None = refl
others_worded (Some text) = refl

pub worded_here : (left : Option (Bor (List ℕ))) (line : Bor (List ℕ)) → left ≡ Some line → worded_left (joined_left left) ≡ words_here line.now ∷ worded_left (behind_line (joined line.now))
worded_here left line e =
    ap (λ l. worded_left (joined_left l)) e ∙ ap (map words_of) (first_line (joined line.now)) ∙ ap (λ l. words_here line.now ∷ l) (others_worded (behind_line (joined line.now)))

-- ---- a limit that is passed stays passed
record Grows (a b : Seen) : Type 0 where
  points : a.points ≤ b.points
  vertices : a.vertices ≤ b.vertices
  prims : a.prims ≤ b.prims

stays : (a : Seen) → Grows a a
stays a = record { points = omega arith; vertices = omega arith; prims = omega arith }

shape_grows : (words : List (List ℕ)) (s : Seen) → Grows s (shape_seen words s)
shape_grows [] s = stays s
shape_grows (w ∷ words) s = record { points = omega arith; vertices = omega arith; prims = omega arith }

words_grow : (k : Keyword) (words : List (List ℕ)) (s : Seen) → Grows s (seen_as k words s)
words_grow key.Point words s = record { points = omega arith; vertices = omega arith; prims = omega arith }
words_grow key.Texture words s = record { points = omega arith; vertices = omega arith; prims = omega arith }
words_grow key.Normal words s = record { points = omega arith; vertices = omega arith; prims = omega arith }
words_grow key.Closed words s = shape_grows words s
words_grow key.Open words s = shape_grows words s
words_grow key.Check words s = stays s
words_grow key.Groups words s = stays s
words_grow key.Other words s = stays s

line_grows : (words : List (List ℕ)) (s : Seen) → Grows s (line_seen words s)
line_grows [] s = stays s
line_grows (w ∷ words) s = words_grow (key_of w) words s

past_grows : (a b : Seen) → Grows a b → is_past a ≡ true → is_past b ≡ true
past_grows a b g h = grind (arith, nat_tests)

past_stays : (lines : List (List (List ℕ))) (s : Seen) → is_past s ≡ true → is_past (all_seen lines s) ≡ true
past_stays [] s h = h
past_stays (words ∷ lines) s h = past_stays lines (line_seen words s) (past_grows s (line_seen words s) (line_grows words s) h)

pub past_more : (f : ObjFault) (lines : List (List (List ℕ))) (s : Seen) → IsPast f s → IsPast f (all_seen lines s)
past_more (fault.Number n) lines s h = h
past_more (fault.Index n) lines s h = h
past_more fault.Limit lines s h = past_stays lines s h
past_more fault.Memory lines s h = h

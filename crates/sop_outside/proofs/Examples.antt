-- Worked examples of the definitions.
use Rattle.std.proofs.Common.{◌≡◌, [], ◌∷◌, Some, None, Ok, Err, refl, ap, ◌∙◌}
use Rattle.std.specs.Prelude.{codes}
use Rattle.std.specs.Cmp.Lexicographic.{nat_list_cmp_total}
use Rattle.std.specs.FinMap.{empty, insert, get-empty, get-insert}
use Rattle.sop_outside.specs.Blanks.{words_of}
use Rattle.sop_outside.specs.Causes.{raised}
use Rattle.sop_outside.specs.Load.{Names, within, load_of}
use Rattle.sop_outside.specs.Told.{appended}
use Rattle.sop_outside.specs.declared.files.LoadEnd.TheVariants.{Missing, TooLong}

-- a count goes up by one, and stops at the end of its type
raised_twelve : raised 12 ≡ 13
raised_twelve = refl

raised_last : raised 18446744073709551615 ≡ 18446744073709551615
raised_last = refl

-- what is told grows at its end, and what tells nothing stays so
appended_told : appended (Some (1 ∷ 2 ∷ [])) (3 ∷ []) ≡ Some (1 ∷ 2 ∷ 3 ∷ [])
appended_told = refl

appended_untold : appended None (3 ∷ []) ≡ None
appended_untold = refl

-- the file named 7 was added twice: first with the bytes 1 and 2, then with 3, 4 and 5
added_twice : Names
added_twice = insert (insert empty (7 ∷ []) (1 ∷ 2 ∷ [])) (7 ∷ []) (3 ∷ 4 ∷ 5 ∷ [])

-- its load gives the newer bytes, where they are at most the limit
load_of_newer : load_of added_twice (7 ∷ []) 3 ≡ Ok (3 ∷ 4 ∷ 5 ∷ [])
unfolding added_twice
load_of_newer = ap (within 3) (get-insert nat_list_cmp_total _ (7 ∷ []) (3 ∷ 4 ∷ 5 ∷ []) (7 ∷ []))

load_of_newer_short : load_of added_twice (7 ∷ []) 2 ≡ Err TooLong
unfolding added_twice
load_of_newer_short = ap (within 2) (get-insert nat_list_cmp_total _ (7 ∷ []) (3 ∷ 4 ∷ 5 ∷ []) (7 ∷ []))

-- a name that was never added
load_of_other : load_of added_twice (8 ∷ []) 3 ≡ Err Missing
unfolding added_twice
load_of_other = ap (within 3) (get-insert nat_list_cmp_total _ (7 ∷ []) (3 ∷ 4 ∷ 5 ∷ []) (8 ∷ []) ∙ get-insert nat_list_cmp_total _ (7 ∷ []) (1 ∷ 2 ∷ []) (8 ∷ []) ∙ get-empty _ (8 ∷ []))

-- words between blanks: at the ends, several in a row, and none at all
words_two : words_of (codes "  a\tbc\r\n") ≡ codes "a" ∷ codes "bc" ∷ []
words_two = refl

words_none : words_of (codes " \n") ≡ []
words_none = refl

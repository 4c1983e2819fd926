-- Worked examples of the definitions.
use Rattle.std.proofs.Common.{◌≡◌, [], ◌∷◌, Some, None, refl}
use Rattle.sop_pages.specs.declared.cell.Cell.TheVariants.{Name}
use Rattle.sop_pages.specs.Pages.{Store, count, cells, live_pages}
use Rattle.sop_pages.specs.Moves.{times}

-- id 0 has a page of two cells that two places hold, id 1 has none, id 2 a page of one cell with one holder
three_ids : Store
three_ids = Some (Name 7 ∷ Name 8 ∷ [], 2) ∷ None ∷ Some (Name 9 ∷ [], 1) ∷ []

count_shared : count three_ids 0 ≡ 2
unfolding three_ids
count_shared = refl

count_of_none : count three_ids 1 ≡ 0
unfolding three_ids
count_of_none = refl

count_past_the_end : count three_ids 9 ≡ 0
unfolding three_ids
count_past_the_end = refl

cells_last : cells three_ids 2 ≡ Name 9 ∷ []
unfolding three_ids
cells_last = refl

-- three places, and two pages
live_pages_two : live_pages three_ids ≡ 2
unfolding three_ids
live_pages_two = refl

times_twice : times 4 (4 ∷ 5 ∷ 4 ∷ []) ≡ 2
times_twice = refl

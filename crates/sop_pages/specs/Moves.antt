-- What a step of the store is for those that hold its pages.
use Rattle.std.specs.Prelude.{◌≡◌, ℕ, ◌+◌, ◌<◌, ◌≤◌, ◌==◌, List, [], ◌∷◌, if◌then◌else◌}
use Rattle.sop_pages.specs.Pages.{Store, count, cells}

-- How often an id stands in a list.
abbrev pub times : ℕ → List ℕ → ℕ
times x [] = 0
times x (y ∷ ys) = (if y == x then 1 else 0) + times x ys

-- The places of the list are among those that the store counts. So each id in it is live.
pub record Covers (s : Store) (held : List ℕ) : Type 0 where
  pub each : (id : ℕ) → times id held ≤ count s id

-- The places in `gone` let go of their pages and those in `come` take hold of theirs.
-- A page that has a further place, outside `gone`, keeps its cells.
pub record Moves (old new : Store) (gone come : List ℕ) : Type 0 where
  pub counts : (id : ℕ) → count new id + times id gone ≡ count old id + times id come
  pub kept : (id : ℕ) → times id gone < count old id → cells new id ≡ cells old id

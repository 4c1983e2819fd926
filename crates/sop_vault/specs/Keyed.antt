-- A finite map from keys, as what stands at each key from 0 on, or nothing.
use Rattle.std.specs.Prelude.{◌≡◌, ◌≢◌, ℕ, ◌+◌, List, [], ◌∷◌, Option, None, IsSome, slice_index_or}

abbrev pub Keyed : Type 0 → Type 0
Keyed X = List (Option X)

module _ {X : Type 0} where
  -- what stands at a key
  abbrev pub at : Keyed X → ℕ → Option X
  at m key = slice_index_or m key None

  -- something stands there
  abbrev pub IsLive : Keyed X → ℕ → Type 0
  IsLive m key = IsSome (at m key)

  -- one key has this now, and every other has what it had
  pub record Changes (old new : Keyed X) (key : ℕ) (now : Option X) : Type 0 where
    pub here : at new key ≡ now
    pub others : (other : ℕ) → other ≢ key → at new other ≡ at old other

  -- a key that was free has this now, and every other has what it had
  pub record Adds (old new : Keyed X) (key : ℕ) (now : Option X) : Type 0 where
    pub was_free : at old key ≡ None
    pub here : at new key ≡ now
    pub others : (other : ℕ) → other ≢ key → at new other ≡ at old other

  -- each key has what it had
  abbrev pub AreSame : Keyed X → Keyed X → Type 0
  AreSame old new = (key : ℕ) → at new key ≡ at old key

  -- f of each, added up
  abbrev pub total : (Option X → ℕ) → Keyed X → ℕ
  total f [] = 0
  total f (x ∷ xs) = f x + total f xs

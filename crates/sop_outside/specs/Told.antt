-- Bytes that an object may tell, and what was appended to them.
use Rattle.std.specs.Prelude.{◌≡◌, ℕ, ◌≤◌, List, ◌++◌, length, take, Option}
use Rattle.std.specs.Option.{option_map}

-- What is told once these bytes were appended: the bytes before, and then these. An object that tells nothing still tells nothing.
abbrev pub appended : Option (List ℕ) → List ℕ → Option (List ℕ)
appended told bytes = option_map (λ before. before ++ bytes) told

-- A prefix of these bytes, of the length `count`, was appended to what was told before.
pub record AppendsPrefix (before now : Option (List ℕ)) (bytes : List ℕ) : Type 0 where
  pub count : ℕ
  pub within : count ≤ length bytes
  pub told : now ≡ appended before (take count bytes)

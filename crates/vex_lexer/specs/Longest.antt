-- The longest beginning of a text that fits a test.
use Rattle.std.specs.Prelude.{ℕ, zero, suc, ◌+◌, Bool, List, length, take, ◌<◌, ◌≤◌, IsTrue, IsFalse}

-- `len` bytes is the length of the longest beginning of the text that fits, or 0 where none with a byte does.
pub record IsLongest (fits : List ℕ → Bool) (text : List ℕ) (len : ℕ) : Type 0 where
  pub within : len ≤ length text
  pub does_fit : 0 < len → IsTrue (fits (take len text))
  pub no_longer : (more : ℕ) → len < more → more ≤ length text → IsFalse (fits (take more text))

-- A length behind so many bytes more, or 0 where it is 0.
abbrev pub onto : ℕ → ℕ → ℕ
onto by zero = 0
onto by (suc len) = suc (by + len)

-- Counts that never fall, and answers that come only where one of them rose.
use Rattle.std.specs.Prelude.{ℕ, ◌+◌, ◌-◌, ◌^◌, ◌≤◌, min}

-- Where every count stops.
abbrev pub last_count : ℕ
last_count = 2 ^ 64 - 1

-- One more than a count, or the last count.
abbrev pub raised : ℕ → ℕ
raised count = min (count + 1) last_count

-- A count rose over a call: it is greater than before, or stands at the last count.
abbrev pub Rose : ℕ → ℕ → Type 0
Rose before now = raised before ≤ now

-- A count over a call: it didn't fall, and where the answer was given it rose.
pub record Counts (before now : ℕ) (Answer : Type 0) : Type 0 where
  pub later : before ≤ now
  pub rose : Answer → Rose before now

-- A sink in memory, as contracts see it.
use Rattle.std.specs.Prelude.{ℕ, List, []}

-- The bytes written, the room left, the most that one write takes, the writes that fail by their numbers from 1, how many writes there were, and how many of them failed.
pub record SinkInMemory : Type 0 where
  pub bytes : List ℕ
  pub room : ℕ
  pub piece : ℕ
  pub failing : List ℕ
  pub writes : ℕ
  pub faults : ℕ

-- A sink with this room and piece that nothing was written to, of which no write fails.
abbrev pub empty_sink : ℕ → ℕ → SinkInMemory
empty_sink room piece = record { bytes = []; room = room; piece = piece; failing = []; writes = 0; faults = 0 }

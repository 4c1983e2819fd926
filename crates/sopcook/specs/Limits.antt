-- The limits of the program.
use Rattle.std.specs.Prelude.{ℕ}

-- the bytes of a file that a node loads, 64 MiB
abbrev pub most_file_bytes : ℕ
most_file_bytes = 67108864

-- the workers that the words may ask for, and the digits of their number
abbrev pub most_workers : ℕ
most_workers = 64

abbrev pub most_worker_digits : ℕ
most_worker_digits = 2

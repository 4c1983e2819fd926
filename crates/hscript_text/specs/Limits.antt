-- The limits of command files, each said once.
use Rattle.std.specs.Prelude.{ℕ}

-- the bytes of a command file
abbrev pub most_script_bytes : ℕ
most_script_bytes = 4194304

-- the bytes of a word, after quotes and variables
abbrev pub most_word_bytes : ℕ
most_word_bytes = 65536

-- the bytes of the echoed text
abbrev pub most_echoed_bytes : ℕ
most_echoed_bytes = 1048576

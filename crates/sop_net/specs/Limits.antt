-- The limits of networks, each said once.
use Rattle.std.specs.Prelude.{ℕ}

-- the nodes of a network, and how many are ever added to it
abbrev pub most_nodes : ℕ
most_nodes = 1024

abbrev pub most_added : ℕ
most_added = 18446744073709551615

-- the inputs of a node, and the digits of the text that names one
abbrev pub most_inputs : ℕ
most_inputs = 32

abbrev pub most_input_digits : ℕ
most_input_digits = 2

-- the digits of a whole number that a parameter takes
abbrev pub most_whole_digits : ℕ
most_whole_digits = 10

-- the bytes of a list of vectors
abbrev pub most_vectors_bytes : ℕ
most_vectors_bytes = 65536

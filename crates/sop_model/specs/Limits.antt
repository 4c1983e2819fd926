-- The limits of geometries, of their values and of the texts of parameters, each said once.
use Rattle.std.specs.Prelude.{ℕ}

-- the points, primitives and vertices of a geometry
abbrev pub most_points : ℕ
most_points = 1000000

abbrev pub most_prims : ℕ
most_prims = 1000000

abbrev pub most_vertices : ℕ
most_vertices = 4000000

-- the heads and the groups of one class
abbrev pub most_heads : ℕ
most_heads = 64

abbrev pub most_groups : ℕ
most_groups = 256

-- the weight of a geometry
abbrev pub most_weight : ℕ
most_weight = 40000000

-- the bytes of a string, also of one that stands in a list
abbrev pub most_string_bytes : ℕ
most_string_bytes = 4096

-- the items of a list
abbrev pub most_list_items : ℕ
most_list_items = 4096

-- the bytes of a name of a node, an attribute, a group or a variable
abbrev pub most_name_bytes : ℕ
most_name_bytes = 64

-- the bytes of a snippet, of a group pattern and of every other text of a parameter
abbrev pub most_snippet_bytes : ℕ
most_snippet_bytes = 65536

abbrev pub most_pattern_bytes : ℕ
most_pattern_bytes = 1024

abbrev pub most_text_bytes : ℕ
most_text_bytes = 1024

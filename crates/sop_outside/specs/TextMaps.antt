-- Maps by text, as maps by the bytes of the text.
use Rattle.std.specs.Prelude.{List, map, String, string_bytes}
use Rattle.std.specs.Cmp.Lexicographic.{slice_cmp}
use Rattle.std.specs.FinMap.{FinMap, from_entries}
use Rattle.std.specs.Ordering.{nat_cmp}

-- The map by bytes from the entries of a map by text.
abbrev pub by_bytes : {Y X : Type 0} → List (String Y × X) → FinMap (slice_cmp nat_cmp) X
by_bytes entries = from_entries (map (λ entry. (string_bytes entry.0, entry.1)) entries)

-- The texts that a parameter takes.
--
-- A whole number is an optional `-` and 1 to 10 digits, within its bounds; `-0` and leading zeros are fine, `+` isn't. A numeral must be in
-- range. Three numerals, and any multiple of three of them (in at most 65,536 bytes), are the words between blanks.
use Rattle.std.specs.Prelude.{ℕ, ◌%◌, ℤ, int_le, Bool, false, ◌&&◌, ◌||◌, nat_le, ◌==◌, if◌then◌else◌, List, length, Option, None, Some, codes, bytes_eq, is_ok}
use Rattle.std.specs.List.{list_all, list_any}
use Rattle.std.specs.Result.{result_ok}
use Rattle.sop_outside.specs.Blanks.{words_of}
use Rattle.sop_fixed.specs.Numerals.{value_of, after_minus, whole_number_of}
use Rattle.sop_model.specs.Limits.{most_text_bytes, most_snippet_bytes}
use Rattle.sop_net.specs.Limits.{most_whole_digits, most_vectors_bytes}
use Rattle.sop_net.specs.NodeTable.{ParmKind, Whole, Numeral, Vector, Vectors, Flag, Text, Snippet, Choice}

-- the Int that an optional `-` and at most 10 digits say
abbrev pub whole_of : List ℕ → Option ℤ
whole_of text = if nat_le (length (after_minus text)) most_whole_digits then result_ok (whole_number_of text) else None

abbrev pub is_between : ℤ → ℤ → Option ℤ → Bool
is_between low high None = false
is_between low high (Some n) = int_le low n && int_le n high

-- a numeral in range
abbrev pub is_number : List ℕ → Bool
is_number text = is_ok (value_of text)

abbrev pub are_numbers : List ℕ → Bool
are_numbers text = list_all is_number (words_of text)

-- whether a parameter takes this text
abbrev pub is_value : ParmKind → List ℕ → Bool
is_value (Whole low high) text = is_between low high (whole_of text)
is_value Numeral text = is_number text
is_value Vector text = are_numbers text && (length (words_of text) == 3)
is_value Vectors text = are_numbers text && (length (words_of text) % 3 == 0) && nat_le (length text) most_vectors_bytes
is_value Flag text = bytes_eq text (codes "0") || bytes_eq text (codes "1")
is_value Text text = nat_le (length text) most_text_bytes
is_value Snippet text = nat_le (length text) most_snippet_bytes
is_value (Choice words) text = list_any (λ word. bytes_eq word text) words

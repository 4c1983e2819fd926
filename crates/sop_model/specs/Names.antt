-- Names: a letter or `_`, then letters, digits or `_`, 1 to 64 bytes. Letters and digits are those of ASCII.
use Rattle.std.specs.Prelude.{ℕ, nat_le, Bool, true, false, ◌&&◌, ◌||◌, ◌==◌, List, [], ◌∷◌, length, not}
use Rattle.std.specs.List.{list_all, list_any}
use Rattle.std.specs.Str.{bytes_eq}
use Rattle.std.specs.Char.{is_ascii_alphabetic, is_ascii_digit}
use Rattle.sop_model.specs.Limits.{most_name_bytes}

abbrev pub starts_name : ℕ → Bool
starts_name b = is_ascii_alphabetic b || (b == 95)

abbrev pub continues_name : ℕ → Bool
continues_name b = starts_name b || is_ascii_digit b

abbrev pub is_name : List ℕ → Bool
is_name [] = false
is_name (b ∷ bytes) = starts_name b && list_all continues_name bytes && nat_le (length (b ∷ bytes)) most_name_bytes

-- no name stands twice
abbrev pub are_distinct : List (List ℕ) → Bool
are_distinct [] = true
are_distinct (name ∷ names) = not (list_any (bytes_eq name) names) && are_distinct names

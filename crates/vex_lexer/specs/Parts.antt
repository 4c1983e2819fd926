-- The parts of a number.
use Rattle.std.specs.Prelude.{ℕ, ◌+◌, Bool, if◌then◌else◌, ◌&&◌, ◌||◌, not, List, drop, is_some, position}
use Rattle.std.specs.List.{list_all, prefix_len, before_first, after_first}
use Rattle.std.specs.Char.{is_ascii_digit}
use Rattle.sop_fixed.specs.Numerals.{after_sign, is_point, is_exponent_mark, is_some_digits, digits_of}
use Rattle.vex_lexer.specs.Words.{begins}

-- A sign or none, and at least one digit.
abbrev pub is_signed_digits : List ℕ → Bool
is_signed_digits text = is_some_digits (after_sign text)

-- The mark of an exponent, a sign or none, and at least one digit.
abbrev pub is_exponent : List ℕ → Bool
is_exponent text = begins is_exponent_mark text && is_signed_digits (drop 1 text)

-- Nothing, or the mark of an exponent and what belongs behind it, behind other bytes.
abbrev pub ends_well : List ℕ → Bool
ends_well text = not (is_some (position is_exponent_mark text)) || is_signed_digits (after_first is_exponent_mark text)

-- A number, or what would be one with a digit more: digits with at most one point, then nothing or an exponent.
abbrev pub is_loose_number : List ℕ → Bool
is_loose_number text = list_all is_ascii_digit (digits_of (before_first is_exponent_mark text)) && ends_well text

-- Digits or none, then nothing or an exponent.
abbrev pub is_fraction : List ℕ → Bool
is_fraction text = list_all is_ascii_digit (before_first is_exponent_mark text) && ends_well text

-- A digit, or a point and a digit.
abbrev pub begins_number : List ℕ → Bool
begins_number text = begins is_ascii_digit text || (begins is_point text && begins is_ascii_digit (drop 1 text))

-- The number of bytes of a point and the digits behind it, or 0 without a point.
abbrev pub fraction_len : List ℕ → ℕ
fraction_len text = if begins is_point text then 1 + prefix_len is_ascii_digit (drop 1 text) else 0

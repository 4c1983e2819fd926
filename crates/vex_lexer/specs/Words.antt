-- What a token looks like: numbers, names, attribute names, strings and operators, each a test on a whole text.
use Rattle.std.specs.Prelude.{ℕ, Bool, true, false, if◌then◌else◌, ◌&&◌, ◌||◌, not, nat_eq, ◌==◌, List, [], ◌∷◌, length, drop, codes, bytes_eq}
use Rattle.std.specs.List.{list_all, list_any, starts_with}
use Rattle.sop_fixed.specs.Numerals.{is_sign, is_numeral}
use Rattle.sop_model.specs.Names.{starts_name, continues_name}
use Rattle.vex_lexer.specs.Operators.{operators, text_of}

-- whether the first byte of a text passes
abbrev pub begins : (ℕ → Bool) → List ℕ → Bool
begins passes [] = false
begins passes (b ∷ text) = passes b

-- A number is a numeral without a sign before it: digits with at most one point, and at least one digit, then nothing or
-- an exponent with at least one digit.
abbrev pub is_number : List ℕ → Bool
is_number word = not (begins is_sign word) && is_numeral word

-- A name is a letter or `_`, then letters, digits or `_`, of any length.
abbrev pub is_name : List ℕ → Bool
is_name word = begins starts_name word && list_all continues_name word

-- What stands before the name of an attribute: `@`, behind a letter of its kind or none, which `[]` may follow.
abbrev pub marks : List (List ℕ)
marks =
    codes "@"
    ∷ codes "f@" ∷ codes "i@" ∷ codes "s@" ∷ codes "v@"
    ∷ codes "f[]@" ∷ codes "i[]@" ∷ codes "s[]@" ∷ codes "v[]@" ∷ []

abbrev pub is_marked_name : List ℕ → List ℕ → Bool
is_marked_name mark word = starts_with nat_eq word mark && is_name (drop (length mark) word)

-- An attribute name is a mark and a name.
abbrev pub is_attribute_name : List ℕ → Bool
is_attribute_name word = list_any (λ mark. is_marked_name mark word) marks

-- `"` or `'`
abbrev pub is_quote : ℕ → Bool
is_quote b = (b == 34) || (b == 39)

-- What a backslash makes an escape with: `n`, `t`, `\`, `"` or `'`.
abbrev pub is_escaped : ℕ → Bool
is_escaped b = (b == 110) || (b == 116) || (b == 92) || (b == 34) || (b == 39)

abbrev pub is_line_end : ℕ → Bool
is_line_end b = b == 10

-- What stands behind a string's opening quote: plain bytes and escapes, and then, as the last byte, the closing quote,
-- which is the same as the opening one. A plain byte is any but the quote, a backslash and a line end. `true` says that
-- a backslash stands before the text.
abbrev pub is_closed_by : ℕ → Bool → List ℕ → Bool
is_closed_by quote escape [] = false
is_closed_by quote true (b ∷ text) = is_escaped b && is_closed_by quote false text
is_closed_by quote false (b ∷ text) = if b == quote then length text == 0 else not (is_line_end b) && is_closed_by quote (b == 92) text

-- A string is a quote and what it closes.
abbrev pub is_string : List ℕ → Bool
is_string [] = false
is_string (quote ∷ text) = is_quote quote && is_closed_by quote false text

abbrev pub is_operator : List ℕ → Bool
is_operator word = list_any (λ operator. bytes_eq (text_of operator) word) operators

abbrev pub is_token : List ℕ → Bool
is_token word = is_number word || is_name word || is_attribute_name word || is_string word || is_operator word

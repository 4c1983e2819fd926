-- Comments, which stand between tokens as blanks do.
use Rattle.std.specs.Prelude.{ℕ, Bool, false, if◌then◌else◌, ◌&&◌, ◌||◌, not, nat_eq, ◌==◌, List, [], ◌∷◌, length, drop, codes}
use Rattle.std.specs.List.{list_all, starts_with}
use Rattle.vex_lexer.specs.Words.{is_line_end}

-- A line comment is `//` and bytes of the same line. Only LF ends a line.
abbrev pub is_line_comment : List ℕ → Bool
is_line_comment text = starts_with nat_eq text (codes "//") && list_all (λ b. not (is_line_end b)) text

-- Whether the text ends with its first `*/`. `star` says that a `*` stands before the text.
abbrev pub ends_comment : Bool → List ℕ → Bool
ends_comment star [] = false
ends_comment star (b ∷ text) = if star && (b == 47) then length text == 0 else ends_comment (b == 42) text

-- A block comment is `/*` and what ends with the first `*/` behind it.
abbrev pub is_block_comment : List ℕ → Bool
is_block_comment text = starts_with nat_eq text (codes "/*") && ends_comment false (drop 2 text)

abbrev pub is_comment : List ℕ → Bool
is_comment text = is_line_comment text || is_block_comment text

-- Where these bytes stand between tokens, a comment begins and no token does.
abbrev pub begins_comment : List ℕ → Bool
begins_comment text = starts_with nat_eq text (codes "//") || starts_with nat_eq text (codes "/*")

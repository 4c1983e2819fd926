-- What a token is, by its text.
use Rattle.std.specs.Prelude.{ℕ, List, Option, Some, None, option_map, if◌then◌else◌}
use Rattle.sop_fixed.specs.Numerals.{are_digits}
use Rattle.vex_lexer.specs.declared.keyword.Keyword.{Keyword}
use Rattle.vex_lexer.specs.declared.token_kind.TokenKind.{TokenKind}
use Rattle.vex_lexer.specs.declared.token_kind.TokenKind.TheVariants as kind
use Rattle.vex_lexer.specs.Words.{is_number, is_name, is_attribute_name, is_string}
use Rattle.vex_lexer.specs.Operators.{operator_of}
use Rattle.vex_lexer.specs.Keywords.{keyword_of}

-- A number of digits alone is a whole one.
abbrev pub number_kind : List ℕ → TokenKind
number_kind word = if are_digits word then kind.Whole else kind.Real

-- The word of a keyword is that keyword, and no name.
abbrev pub name_kind : Option Keyword → TokenKind
name_kind None = kind.Name
name_kind (Some keyword) = kind.Keyword keyword

-- what a word is, where it is a token
abbrev pub kind_of : List ℕ → Option TokenKind
kind_of word =
    if is_number word then Some (number_kind word)
    else if is_name word then Some (name_kind (keyword_of word))
    else if is_attribute_name word then Some kind.AttributeName
    else if is_string word then Some kind.Quoted
    else option_map kind.Operator (operator_of word)

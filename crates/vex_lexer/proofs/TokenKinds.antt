-- What a token is.
use Rattle.std.proofs.Common.{◌≡◌, List, ℕ, Bool, true, false, ◌||◌, Some, None, refl, if◌then◌else◌, bytes_eq, [], ◌∷◌, cond, sym}
use Rattle.std.specs.Prelude.{Option, option_map}
use Rattle.std.specs.List.{find, list_any}
use Rattle.vex_lexer.specs.declared.operator.Operator.{Operator}
use Rattle.vex_lexer.specs.declared.operator.Operator.TheVariants as mark
use Rattle.vex_lexer.specs.declared.keyword.Keyword.TheVariants as key
use Rattle.vex_lexer.specs.declared.token_kind.TokenKind.{TokenKind}
use Rattle.vex_lexer.specs.declared.token_kind.TokenKind.TheVariants as kind
use Rattle.vex_lexer.specs.Words.{is_number, is_name, is_attribute_name, is_string, is_operator, is_token}
use Rattle.vex_lexer.specs.Operators.{operators, operator_of, text_of}
use Rattle.vex_lexer.specs.Keywords.{keyword_of}
use Rattle.vex_lexer.specs.TokenKinds.{number_kind, name_kind, kind_of}
use Rattle.vex_lexer.specs.declared.keyword.Keyword.{Keyword}
use Rattle.vex_lexer.specs.Keywords.{word_of}
use Rattle.vex_lexer.proofs.Longest.{not_both}

found_in : (table : List Operator) (word : List ℕ) → list_any (λ o. bytes_eq (text_of o) word) table ≡ true → find (λ o. bytes_eq (text_of o) word) table ≡ None → ⊥
found_in [] word h none = not_both _ h refl
found_in (o ∷ table) word h none = elim (bytes_eq (text_of o) word) as (λ x. (x || list_any (λ o. bytes_eq (text_of o) word) table) ≡ true → cond x (Some o) (find (λ o. bytes_eq (text_of o) word) table) ≡ None → ⊥) [
  | true ↦ λ any gone. (cc)
  | false ↦ λ any gone. found_in table word any gone
] h none

no_kind : (o : Option Operator) → option_map kind.Operator o ≡ None → o ≡ None
no_kind None e = refl
no_kind (Some o) e = absurd (cc)

is_something : (word : List ℕ) → is_token word ≡ true → kind_of word ≡ None → ⊥
is_something word h none = five (is_number word) (is_name word) (is_attribute_name word) (is_string word) h none
  where
    five : (a b c d : Bool) → (a || b || c || d || is_operator word) ≡ true → (if a then Some (number_kind word) else if b then Some (name_kind (keyword_of word)) else if c then Some kind.AttributeName else if d then Some kind.Quoted else option_map kind.Operator (operator_of word)) ≡ None → ⊥
    five true b c d h e = (cc)
    five false true c d h e = (cc)
    five false false true d h e = (cc)
    five false false false true h e = (cc)
    five false false false false h e = found_in operators word h (no_kind (operator_of word) e)

-- a token is something
pub some_kind : (word : List ℕ) (is : Option TokenKind) → is ≡ kind_of word → is_token word ≡ true → ((x : TokenKind) → is ≡ Some x → ⊥) → ⊥
some_kind word None e h none = is_something word h (sym e)
some_kind word (Some x) e h none = none x refl

pub keyword_found : (k : Keyword) → kind_of (word_of k) ≡ Some (kind.Keyword k)
keyword_found key.Int = refl
keyword_found key.Float = refl
keyword_found key.Vector = refl
keyword_found key.String = refl
keyword_found key.Void = refl
keyword_found key.If = refl
keyword_found key.Else = refl
keyword_found key.For = refl
keyword_found key.While = refl
keyword_found key.Foreach = refl
keyword_found key.Break = refl
keyword_found key.Continue = refl
keyword_found key.Return = refl
keyword_found key.Function = refl

pub operator_found : (o : Operator) → kind_of (text_of o) ≡ Some (kind.Operator o)
operator_found mark.Plus = refl
operator_found mark.Minus = refl
operator_found mark.Times = refl
operator_found mark.Over = refl
operator_found mark.Modulo = refl
operator_found mark.Equal = refl
operator_found mark.Unequal = refl
operator_found mark.Less = refl
operator_found mark.AtMost = refl
operator_found mark.Greater = refl
operator_found mark.AtLeast = refl
operator_found mark.And = refl
operator_found mark.Or = refl
operator_found mark.Not = refl
operator_found mark.Question = refl
operator_found mark.Colon = refl
operator_found mark.Assign = refl
operator_found mark.AssignSum = refl
operator_found mark.AssignDifference = refl
operator_found mark.AssignProduct = refl
operator_found mark.AssignQuotient = refl
operator_found mark.Increment = refl
operator_found mark.Decrement = refl
operator_found mark.OpenParenthesis = refl
operator_found mark.CloseParenthesis = refl
operator_found mark.OpenBrace = refl
operator_found mark.CloseBrace = refl
operator_found mark.OpenBracket = refl
operator_found mark.CloseBracket = refl
operator_found mark.Semicolon = refl
operator_found mark.Comma = refl
operator_found mark.Point = refl

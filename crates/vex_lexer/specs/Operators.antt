-- Operators, brackets and other marks: the text of each.
use Rattle.std.specs.Prelude.{ℕ, List, [], ◌∷◌, Option, codes, bytes_eq}
use Rattle.std.specs.List.{find}
use Rattle.vex_lexer.specs.declared.operator.Operator.{Operator}
use Rattle.vex_lexer.specs.declared.operator.Operator.TheVariants as mark

abbrev pub text_of : Operator → List ℕ
text_of mark.Plus = codes "+"
text_of mark.Minus = codes "-"
text_of mark.Times = codes "*"
text_of mark.Over = codes "/"
text_of mark.Modulo = codes "%"
text_of mark.Equal = codes "=="
text_of mark.Unequal = codes "!="
text_of mark.Less = codes "<"
text_of mark.AtMost = codes "<="
text_of mark.Greater = codes ">"
text_of mark.AtLeast = codes ">="
text_of mark.And = codes "&&"
text_of mark.Or = codes "||"
text_of mark.Not = codes "!"
text_of mark.Question = codes "?"
text_of mark.Colon = codes ":"
text_of mark.Assign = codes "="
text_of mark.AssignSum = codes "+="
text_of mark.AssignDifference = codes "-="
text_of mark.AssignProduct = codes "*="
text_of mark.AssignQuotient = codes "/="
text_of mark.Increment = codes "++"
text_of mark.Decrement = codes "--"
text_of mark.OpenParenthesis = codes "("
text_of mark.CloseParenthesis = codes ")"
text_of mark.OpenBrace = codes "{"
text_of mark.CloseBrace = codes "}"
text_of mark.OpenBracket = codes "["
text_of mark.CloseBracket = codes "]"
text_of mark.Semicolon = codes ";"
text_of mark.Comma = codes ","
text_of mark.Point = codes "."

abbrev pub operators : List Operator
operators =
    mark.Plus
    ∷ mark.Minus
    ∷ mark.Times
    ∷ mark.Over
    ∷ mark.Modulo
    ∷ mark.Equal
    ∷ mark.Unequal
    ∷ mark.Less
    ∷ mark.AtMost
    ∷ mark.Greater
    ∷ mark.AtLeast
    ∷ mark.And
    ∷ mark.Or
    ∷ mark.Not
    ∷ mark.Question
    ∷ mark.Colon
    ∷ mark.Assign
    ∷ mark.AssignSum
    ∷ mark.AssignDifference
    ∷ mark.AssignProduct
    ∷ mark.AssignQuotient
    ∷ mark.Increment
    ∷ mark.Decrement
    ∷ mark.OpenParenthesis
    ∷ mark.CloseParenthesis
    ∷ mark.OpenBrace
    ∷ mark.CloseBrace
    ∷ mark.OpenBracket
    ∷ mark.CloseBracket
    ∷ mark.Semicolon
    ∷ mark.Comma
    ∷ mark.Point
    ∷ []

-- the operator of a text
abbrev pub operator_of : List ℕ → Option Operator
operator_of text = find (λ operator. bytes_eq (text_of operator) text) operators

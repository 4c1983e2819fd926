-- Keywords: the word of each.
use Rattle.std.specs.Prelude.{ℕ, List, [], ◌∷◌, Option, codes, bytes_eq}
use Rattle.std.specs.List.{find}
use Rattle.vex_lexer.specs.declared.keyword.Keyword.{Keyword}
use Rattle.vex_lexer.specs.declared.keyword.Keyword.TheVariants as key

abbrev pub word_of : Keyword → List ℕ
word_of key.Int = codes "int"
word_of key.Float = codes "float"
word_of key.Vector = codes "vector"
word_of key.String = codes "string"
word_of key.Void = codes "void"
word_of key.If = codes "if"
word_of key.Else = codes "else"
word_of key.For = codes "for"
word_of key.While = codes "while"
word_of key.Foreach = codes "foreach"
word_of key.Break = codes "break"
word_of key.Continue = codes "continue"
word_of key.Return = codes "return"
word_of key.Function = codes "function"

abbrev pub keywords : List Keyword
keywords =
    key.Int
    ∷ key.Float
    ∷ key.Vector
    ∷ key.String
    ∷ key.Void
    ∷ key.If
    ∷ key.Else
    ∷ key.For
    ∷ key.While
    ∷ key.Foreach
    ∷ key.Break
    ∷ key.Continue
    ∷ key.Return
    ∷ key.Function
    ∷ []

-- the keyword of a word
abbrev pub keyword_of : List ℕ → Option Keyword
keyword_of word = find (λ keyword. bytes_eq (word_of keyword) word) keywords

-- How a text spells its tokens. A text is a row of pieces without a gap or an overlap: each is a blank, the longest
-- comment or the longest token that begins at its place. The tokens of the row are what the text spells.
use Rattle.std.specs.Prelude.{◌≡◌, ℕ, ◌+◌, ◌-◌, ◌<◌, ◌⊎◌, List, [], ◌∷◌, length, take, drop, Some, IsTrue, IsFalse}
use Rattle.std.specs.List.{filter, slice_range}
use Rattle.vex_lexer.specs.declared.token.Token.{Token}
use Rattle.vex_lexer.specs.Longest.{IsLongest}
use Rattle.vex_lexer.specs.Words.{begins, is_line_end, is_token}
use Rattle.vex_lexer.specs.TokenKinds.{kind_of}
use Rattle.sop_outside.specs.Blanks.{is_blank}
use Rattle.vex_lexer.specs.Gaps.{is_comment, begins_comment}

-- The line of a place of a text, counted from 1.
abbrev pub line_of : List ℕ → ℕ → ℕ
line_of text place = 1 + length (filter is_line_end (take place text))

-- Bytes between tokens, by their number, or a token.
pub data Piece : Type 0 where
  Between : ℕ → Piece
  Word : Token → Piece

abbrev pub len_of : Piece → ℕ
len_of (Between len) = len
len_of (Word token) = token.end - token.start

-- The token that begins at a place: no comment does, and no longer one fits.
pub record IsTokenAt (text : List ℕ) (place : ℕ) (token : Token) : Type 0 where
  pub begins_here : token.start ≡ place
  pub some_byte : token.start < token.end
  pub no_comment : IsFalse (begins_comment (drop place text))
  pub longest : IsLongest is_token (drop place text) (token.end - token.start)
  pub slice : token.text ≡ slice_range text token.start token.end
  pub line : token.line ≡ line_of text place
  pub kind : kind_of token.text ≡ Some token.kind

-- The token of the bytes from one place to another, which stands in this line.
pub record IsCut (text : List ℕ) (from to line : ℕ) (token : Token) : Type 0 where
  pub slice : token.text ≡ slice_range text from to
  pub start : token.start ≡ from
  pub end : token.end ≡ to
  pub at_line : token.line ≡ line
  pub kind : kind_of token.text ≡ Some token.kind

-- So many bytes are one blank, or a comment.
abbrev pub IsBetween : List ℕ → ℕ → Type 0
IsBetween rest len = (IsTrue (begins is_blank rest) × (len ≡ 1)) ⊎ (IsLongest is_comment rest len × (0 < len))

abbrev pub IsPieceAt : List ℕ → ℕ → Piece → Type 0
IsPieceAt text place (Between len) = IsBetween (drop place text) len
IsPieceAt text place (Word token) = IsTokenAt text place token

-- The pieces stand in a row from one place of the text to another.
abbrev pub IsRow : List ℕ → ℕ → List Piece → ℕ → Type 0
IsRow text from [] to = from ≡ to
IsRow text from (piece ∷ pieces) to = IsPieceAt text from piece × IsRow text (from + len_of piece) pieces to

abbrev pub tokens_of : List Piece → List Token
tokens_of [] = []
tokens_of (Between len ∷ pieces) = tokens_of pieces
tokens_of (Word token ∷ pieces) = token ∷ tokens_of pieces

-- The text is a row of pieces, and these are its tokens.
pub record Spells (text : List ℕ) (tokens : List Token) : Type 0 where
  pub pieces : List Piece
  pub row : IsRow text 0 pieces (length text)
  pub same : tokens_of pieces ≡ tokens

-- The line of the place in the text, behind a row of pieces, where no piece begins.
pub record LacksToken (text : List ℕ) (line : ℕ) : Type 0 where
  pub pieces : List Piece
  pub place : ℕ
  pub row : IsRow text 0 pieces place
  pub inside : place < length text
  pub no_piece : (piece : Piece) → IsPieceAt text place piece → ⊥
  pub at_line : line ≡ line_of text place

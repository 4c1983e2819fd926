-- What the scanner has read: a row of pieces from the text's start to its place.
use Rattle.std.proofs.Common.{◌≡◌, ℕ, ◌+◌, ◌-◌, ◌≤◌, ◌<◌, List, [], ◌∷◌, ◌++◌, length, take, drop, refl, ap, sym, subst, ◌∙◌, arith, false, inl, inr, length-append, length-drop}
use Rattle.std.proofs.Math.Seq.{take-add}
use Rattle.std.proofs.lemmas.List.{take_rest, length-take-le}
use Rattle.std.proofs.lemmas.List.Sums.{length-filter, count_by-le-length}
use Rattle.std.proofs.lemmas.List.Elements.{filter-append}
use Rattle.std.specs.List.{slice_range, filter}
use Rattle.vex_lexer.specs.declared.token.Token.{Token}
use Rattle.vex_lexer.specs.Longest.{IsLongest}
use Rattle.vex_lexer.specs.Words.{is_line_end, is_token}
use Rattle.vex_lexer.specs.Gaps.{is_comment, begins_comment}
use Rattle.vex_lexer.specs.Spelling.{Piece, Between, Word, len_of, IsTokenAt, IsCut, IsBetween, IsPieceAt, IsRow, tokens_of, Spells, LacksToken, line_of}
use Rattle.vex_lexer.specs.declared.opening.Opening.TheVariants.{Nothing}
use Rattle.vex_lexer.specs.Openings.{IsOpening}
use Rattle.vex_lexer.proofs.Longest.{not_both, one_longest}
use Rattle.vex_lexer.proofs.Rows.{comment_begins, no_spelling}

pub record Scanned (text : List ℕ) (place line : ℕ) (tokens : List Token) : Type 0 where
  pub pieces : List Piece
  pub row : IsRow text 0 pieces place
  pub same : tokens_of pieces ≡ tokens
  pub at_line : line ≡ line_of text place
  pub inside : place ≤ length text
  pub early : line ≤ place + 1

pub scanned_nothing : (text : List ℕ) → Scanned text 0 1 []
scanned_nothing text = record { pieces = []; row = refl; same = refl; at_line = refl; inside = omega arith; early = omega arith }

pub some_between : (rest : List ℕ) (len : ℕ) → IsBetween rest len → (0 < len) × (len ≤ length rest)
some_between [] len (inl blank) = absurd (not_both _ blank.0 refl)
some_between (b ∷ rest) len (inl blank) = (omega (arith, blank.1), omega (arith, blank.1))
some_between rest len (inr comment) = (comment.1, comment.0.within)

row_more : (text : List ℕ) (pieces : List Piece) (piece : Piece) (from to : ℕ) → IsRow text from pieces to → IsPieceAt text to piece → IsRow text from (pieces ++ piece ∷ []) (to + len_of piece)
row_more text [] piece from to row here = (subst (λ n. IsPieceAt text n piece) (sym row) here, ap (λ n. n + len_of piece) row)
row_more text (x ∷ pieces) piece from to row here = (row.0, row_more text pieces piece (from + len_of x) to row.1 here)

tokens-between : (pieces : List Piece) (len : ℕ) → tokens_of (pieces ++ Between len ∷ []) ≡ tokens_of pieces
tokens-between [] len = refl
tokens-between (Between n ∷ pieces) len = tokens-between pieces len
tokens-between (Word t ∷ pieces) len = ap (λ ts. t ∷ ts) (tokens-between pieces len)

tokens-word : (pieces : List Piece) (token : Token) → tokens_of (pieces ++ Word token ∷ []) ≡ tokens_of pieces ++ token ∷ []
tokens-word [] token = refl
tokens-word (Between n ∷ pieces) token = tokens-word pieces token
tokens-word (Word t ∷ pieces) token = ap (λ ts. t ∷ ts) (tokens-word pieces token)

line_further : (text : List ℕ) (place len : ℕ) → line_of text (place + len) ≡ line_of text place + length (filter is_line_end (take len (drop place text)))
line_further text place len =
    ap (λ t. 1 + length (filter is_line_end t)) (take-add place len text)
    ∙ ap (λ t. 1 + length t) (filter-append is_line_end (take place text) (take len (drop place text)))
    ∙ (let e = length-append (filter is_line_end (take place text)) (filter is_line_end (take len (drop place text))) in omega (arith, e))

-- the line ends of a piece, which the code counts
pub ends_of : (text : List ℕ) (place len ends : ℕ) → ends ≡ length (filter is_line_end (take len (take (length text - place) (drop place text)))) → ends ≡ length (filter is_line_end (take len (drop place text)))
ends_of text place len ends e = e ∙ ap (λ t. length (filter is_line_end (take len t))) (take_rest text place)

few_ends : (rest : List ℕ) (len : ℕ) → len ≤ length rest → length (filter is_line_end (take len rest)) ≤ len
few_ends rest len inside = omega (arith, length-filter is_line_end (take len rest), count_by-le-length is_line_end (take len rest), length-take-le len rest inside)

pub scanned_between : (text : List ℕ) (place line : ℕ) (tokens : List Token) (len ends : ℕ) → Scanned text place line tokens → IsBetween (drop place text) len
    → ends ≡ length (filter is_line_end (take len (drop place text))) → Scanned text (place + len) (line + ends) tokens
scanned_between text place line tokens len ends h between e =
    let bounds = some_between (drop place text) len between in
    let size : length (drop place text) ≡ length text - place = length-drop place text in
    let in_text = h.inside in
    let soon = h.early in
    let few = few_ends (drop place text) len bounds.1 in record {
      pieces = h.pieces ++ Between len ∷ [];
      row = row_more text h.pieces (Between len) 0 place h.row between;
      same = tokens-between h.pieces len ∙ h.same;
      at_line = omega (arith, h.at_line, e, line_further text place len);
      inside = omega (arith, bounds.1);
      early = omega arith;
    }

token_there : (text : List ℕ) (place line len : ℕ) (token : Token) → line ≡ line_of text place → begins_comment (drop place text) ≡ false → IsLongest is_token (drop place text) len → 0 < len
    → IsCut text place (place + len) line token → IsTokenAt text place token
token_there text place line len token at_line apart longest some cut =
    let start = cut.start in
    let end = cut.end in
    let same : len ≡ token.end - token.start = omega arith in
    record {
      begins_here = start;
      some_byte = omega arith;
      no_comment = apart;
      longest = subst (IsLongest is_token (drop place text)) same longest;
      slice = cut.slice ∙ (λ i. slice_range text (sym start i) (sym end i));
      line = cut.at_line ∙ at_line;
      kind = cut.kind;
    }

pub scanned_word : (text : List ℕ) (place line : ℕ) (tokens : List Token) (len ends : ℕ) (token : Token) → Scanned text place line tokens
    → begins_comment (drop place text) ≡ false → IsLongest is_token (drop place text) len → 0 < len
    → IsCut text place (place + len) line token
    → ends ≡ length (filter is_line_end (take len (drop place text))) → Scanned text (place + len) (line + ends) (tokens ++ token ∷ [])
scanned_word text place line tokens len ends token h apart longest some made e =
    let size : length (drop place text) ≡ length text - place = length-drop place text in
    let within = longest.within in
    let in_text = h.inside in
    let soon = h.early in
    let few = few_ends (drop place text) len within in
    let step : len_of (Word token) ≡ len = (let start = made.start in let end = made.end in omega arith) in record {
      pieces = h.pieces ++ Word token ∷ [];
      row = subst (λ n. IsRow text 0 (h.pieces ++ Word token ∷ []) (place + n)) step (row_more text h.pieces (Word token) 0 place h.row (token_there text place line len token h.at_line apart longest some made));
      same = tokens-word h.pieces token ∙ ap (λ ts. ts ++ token ∷ []) h.same;
      at_line = omega (arith, h.at_line, e, line_further text place len);
      inside = omega arith;
      early = omega arith;
    }

pub spelled : (text : List ℕ) (place line : ℕ) (tokens : List Token) → Scanned text place line tokens → length text ≤ place → Spells text tokens
spelled text place line tokens h past =
    let in_text = h.inside in
    let e : place ≡ length text = omega arith in record {
      pieces = h.pieces;
      row = subst (IsRow text 0 h.pieces) e h.row;
      same = h.same;
    }

-- where nothing begins, no piece does
no_between : (rest : List ℕ) (len : ℕ) → IsBetween rest len → IsOpening rest Nothing → ⊥
no_between rest len (inl blank) h = not_both _ blank.0 h.0
no_between rest len (inr comment) h = elim h.1 [
  | inl begun ↦ (let e = one_longest is_comment rest len 0 comment.0 begun.1 in let some = comment.1 in omega arith)
  | inr none ↦ not_both _ (comment_begins rest len comment.0 comment.1) none.0
]

pub no_piece_there : (text : List ℕ) (place : ℕ) (piece : Piece) → IsOpening (drop place text) Nothing → IsPieceAt text place piece → ⊥
no_piece_there text place (Between len) h here = no_between (drop place text) len here h
no_piece_there text place (Word token) h here = elim h.1 [
  | inl begun ↦ not_both _ begun.0 here.no_comment
  | inr none ↦ (let e = one_longest is_token (drop place text) (token.end - token.start) 0 here.longest none.1 in let some = here.some_byte in omega arith)
]

pub lacking : (text : List ℕ) (place line : ℕ) (tokens : List Token) → Scanned text place line tokens → place < length text → IsOpening (drop place text) Nothing → LacksToken text line
lacking text place line tokens h inside none = record {
  pieces = h.pieces;
  place = place;
  row = h.row;
  inside = inside;
  no_piece = λ piece. no_piece_there text place piece none;
  at_line = h.at_line;
}

pub refused : (text : List ℕ) (place line : ℕ) (tokens : List Token) → Scanned text place line tokens → place < length text → IsOpening (drop place text) Nothing
    → LacksToken text line × ((others : List Token) → Spells text others → ⊥)
refused text place line tokens h inside none =
    let lacks = lacking text place line tokens h inside none in (lacks, λ others. no_spelling text line others lacks)

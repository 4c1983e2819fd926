-- A text is a row of pieces in one way at most.
use Rattle.std.proofs.Common.{◌≡◌, ℕ, zero, suc, ◌+◌, ◌-◌, ◌≤◌, ◌<◌, ◌⊎◌, List, [], ◌∷◌, length, take, drop, refl, ap, sym, subst, ◌∙◌, arith, Bool, true, false, not, ◌||◌, ◌==◌, inl, inr, nat_eq, codes, Some}
use Rattle.std.proofs.lemmas.Bool.{and_parts}
use Rattle.std.proofs.lemmas.Bool.Decides.{Decides-eqb}
use Rattle.std.proofs.lemmas.List.{drop_all}
use Rattle.std.specs.List.{slice_range, starts_with, list_all}
use Rattle.vex_lexer.specs.declared.token.Token.{Token}
use Rattle.vex_lexer.specs.declared.token_kind.TokenKind.{TokenKind}
use Rattle.vex_lexer.specs.TokenKinds.{kind_of}
use Rattle.vex_lexer.specs.Longest.{IsLongest}
use Rattle.vex_lexer.specs.Words.{begins, is_line_end, is_token, is_name, is_attribute_name, is_string, is_operator}
use Rattle.sop_outside.specs.Blanks.{is_blank}
use Rattle.vex_lexer.specs.Gaps.{is_comment, is_line_comment, is_block_comment, begins_comment, ends_comment}
use Rattle.vex_lexer.specs.Spelling.{Piece, Between, Word, len_of, IsTokenAt, IsBetween, IsPieceAt, IsRow, tokens_of, Spells, LacksToken, line_of}
use Rattle.vex_lexer.proofs.Longest.{not_both, one_longest, starts_shorter}
use Rattle.vex_lexer.proofs.Numbers.{not_number}

pub either_true : (x y : Bool) → (x || y) ≡ true → (x ≡ true) ⊎ (y ≡ true)
either_true true y h = inl refl
either_true false y h = inr h

-- a comment's first bytes
pub comment_begins : (rest : List ℕ) (len : ℕ) → IsLongest is_comment rest len → 0 < len → begins_comment rest ≡ true
comment_begins rest len h some = elim (either_true (is_line_comment (take len rest)) (is_block_comment (take len rest)) (h.does_fit some)) [
  | inl line ↦ ap (λ x. x || starts_with nat_eq rest (codes "/*")) (starts_shorter (codes "//") rest len (and_parts _ (list_all (λ b. not (is_line_end b)) (take len rest)) line).0).1
  | inr block ↦ (let there = (starts_shorter (codes "/*") rest len (and_parts _ (ends_comment false (drop 2 (take len rest))) block).0).1 in or_second (starts_with nat_eq rest (codes "//")) _ there)
]
  where
    or_second : (x y : Bool) → y ≡ true → (x || y) ≡ true
    or_second true y e = refl
    or_second false y e = e

-- a blank's byte is one of four
blank_cases : (b : ℕ) → is_blank b ≡ true → (b ≡ 32) ⊎ ((b ≡ 9) ⊎ ((b ≡ 13) ⊎ (b ≡ 10)))
blank_cases b h = elim (either_true ((b == 32) || (b == 9) || (b == 13)) (b == 10) h) [
  | inr a ↦ inr (inr (inr ((Decides-eqb b 10).0 a)))
  | inl h ↦ elim (either_true ((b == 32) || (b == 9)) (b == 13) h) [
    | inr a ↦ inr (inr (inl ((Decides-eqb b 13).0 a)))
    | inl h ↦ elim (either_true (b == 32) (b == 9) h) [
      | inr a ↦ inr (inl ((Decides-eqb b 9).0 a))
      | inl a ↦ inl ((Decides-eqb b 32).0 a)
    ]
  ]
]

by_blank : (P : ℕ → Type 0) → P 32 → P 9 → P 13 → P 10 → (b : ℕ) → is_blank b ≡ true → P b
by_blank P space tab cr lf b h = elim (blank_cases b h) [
  | inl e ↦ subst P (sym e) space
  | inr more ↦ elim more [
    | inl e ↦ subst P (sym e) tab
    | inr more ↦ elim more [ inl e ↦ subst P (sym e) cr | inr e ↦ subst P (sym e) lf ]
  ]
]

blank_no_token : (b : ℕ) (word : List ℕ) → is_blank b ≡ true → is_token (b ∷ word) ≡ false
blank_no_token b word = by_blank (λ b. is_token (b ∷ word) ≡ false)
    (ap (λ x. x || is_name (32 ∷ word) || is_attribute_name (32 ∷ word) || is_string (32 ∷ word) || is_operator (32 ∷ word)) (not_number (32 ∷ word) refl))
    (ap (λ x. x || is_name (9 ∷ word) || is_attribute_name (9 ∷ word) || is_string (9 ∷ word) || is_operator (9 ∷ word)) (not_number (9 ∷ word) refl))
    (ap (λ x. x || is_name (13 ∷ word) || is_attribute_name (13 ∷ word) || is_string (13 ∷ word) || is_operator (13 ∷ word)) (not_number (13 ∷ word) refl))
    (ap (λ x. x || is_name (10 ∷ word) || is_attribute_name (10 ∷ word) || is_string (10 ∷ word) || is_operator (10 ∷ word)) (not_number (10 ∷ word) refl))
    b

blank_no_comment : (rest : List ℕ) → begins is_blank rest ≡ true → begins_comment rest ≡ false
blank_no_comment [] h = refl
blank_no_comment (b ∷ rest) h = by_blank (λ b. begins_comment (b ∷ rest) ≡ false) refl refl refl refl b h

blank_none : (rest : List ℕ) (len : ℕ) → begins is_blank rest ≡ true → IsLongest is_token rest len → 0 < len → ⊥
blank_none [] len blank h some = not_both _ blank refl
blank_none (b ∷ rest) zero blank h some = omega arith
blank_none (b ∷ rest) (suc len) blank h some = not_both _ (h.does_fit some) (blank_no_token b (take len rest) blank)

-- one piece at most begins at a place

between_comment : (rest : List ℕ) (len : ℕ) → begins_comment rest ≡ false → IsLongest is_comment rest len → 0 < len → ⊥
between_comment rest len apart h some = not_both _ (comment_begins rest len h some) apart

same_between : (rest : List ℕ) (a b : ℕ) → IsBetween rest a → IsBetween rest b → a ≡ b
same_between rest a b (inl p) (inl q) = p.1 ∙ sym q.1
same_between rest a b (inl p) (inr q) = absurd (between_comment rest b (blank_no_comment rest p.0) q.0 q.1)
same_between rest a b (inr p) (inl q) = absurd (between_comment rest a (blank_no_comment rest q.0) p.0 p.1)
same_between rest a b (inr p) (inr q) = one_longest is_comment rest a b p.0 q.0

pub between_or_word : (text : List ℕ) (place len : ℕ) (token : Token) → IsBetween (drop place text) len → IsTokenAt text place token → ⊥
between_or_word text place len token (inl p) q = (let some = q.some_byte in blank_none (drop place text) (token.end - token.start) p.0 q.longest (omega arith))
between_or_word text place len token (inr p) q = between_comment (drop place text) len q.no_comment p.0 p.1

fields_same : (t u : Token) → t.text ≡ u.text → t.start ≡ u.start → t.end ≡ u.end → t.line ≡ u.line → t.kind ≡ u.kind → t ≡ u
fields_same t u text start end line kind = λ i. record { text = text i; start = start i; end = end i; line = line i; kind = kind i }

some_same : (a b : TokenKind) → Some a ≡ Some b → a ≡ b
some_same a b e = (cc)

same_token : (text : List ℕ) (place : ℕ) (t u : Token) → IsTokenAt text place t → IsTokenAt text place u → t ≡ u
same_token text place t u p q =
    let start : t.start ≡ u.start = p.begins_here ∙ sym q.begins_here in
    let len : t.end - t.start ≡ u.end - u.start = one_longest is_token (drop place text) (t.end - t.start) (u.end - u.start) p.longest q.longest in
    let t_some = p.some_byte in
    let u_some = q.some_byte in
    let end : t.end ≡ u.end = omega arith in
    let slice : t.text ≡ u.text = p.slice ∙ ap (λ n. slice_range text n t.end) start ∙ ap (λ n. slice_range text u.start n) end ∙ sym q.slice in
    fields_same t u slice start end (p.line ∙ sym q.line) (some_same t.kind u.kind (sym p.kind ∙ ap kind_of slice ∙ q.kind))

pub same_piece : (text : List ℕ) (place : ℕ) (p q : Piece) → IsPieceAt text place p → IsPieceAt text place q → p ≡ q
same_piece text place (Between a) (Between b) p q = ap Between (same_between (drop place text) a b p q)
same_piece text place (Between a) (Word u) p q = absurd (between_or_word text place a u p q)
same_piece text place (Word t) (Between b) p q = absurd (between_or_word text place b t q p)
same_piece text place (Word t) (Word u) p q = ap Word (same_token text place t u p q)

-- a row ends where no piece begins, at one place

abbrev pub Stops : List ℕ → ℕ → Type 0
Stops text place = (piece : Piece) → IsPieceAt text place piece → ⊥

nothing_left : (piece : Piece) (text : List ℕ) (place : ℕ) → drop place text ≡ [] → IsPieceAt text place piece → ⊥
nothing_left (Between len) text place e p = go (subst (λ rest. IsBetween rest len) e p)
  where
    go : IsBetween [] len → ⊥
    go (inl q) = not_both _ q.0 refl
    go (inr q) = (let short = q.0.within in let some = q.1 in omega arith)
nothing_left (Word token) text place e p =
    let some = p.some_byte in
    let short : token.end - token.start ≤ length (drop place text) = p.longest.within in
    omega (arith, ap length e)

pub stops_at_end : (text : List ℕ) → Stops text (length text)
stops_at_end text piece p = nothing_left piece text (length text) (drop_all (length text) text (omega arith)) p

pub one_row : (text : List ℕ) (pieces others : List Piece) (from a b : ℕ) → Stops text a → Stops text b → IsRow text from pieces a → IsRow text from others b → (pieces ≡ others) × (a ≡ b)
one_row text [] [] from a b sa sb p q = (refl, sym p ∙ q)
one_row text [] (x ∷ others) from a b sa sb p q = absurd (sa x (subst (λ n. IsPieceAt text n x) p q.0))
one_row text (x ∷ pieces) [] from a b sa sb p q = absurd (sb x (subst (λ n. IsPieceAt text n x) q p.0))
one_row text (x ∷ pieces) (y ∷ others) from a b sa sb p q =
    let e : x ≡ y = same_piece text from x y p.0 q.0 in
    let rest = one_row text pieces others (from + len_of x) a b sa sb p.1 (subst (λ z. IsRow text (from + len_of z) others b) (sym e) q.1) in
    (ap (λ z. z ∷ pieces) e ∙ ap (λ zs. y ∷ zs) rest.0, rest.1)

pub one_spelling : (text : List ℕ) (tokens others : List Token) → Spells text tokens → Spells text others → tokens ≡ others
one_spelling text tokens others p q =
    let rows = one_row text p.pieces q.pieces 0 (length text) (length text) (stops_at_end text) (stops_at_end text) p.row q.row in
    sym p.same ∙ ap tokens_of rows.0 ∙ q.same

pub no_spelling : (text : List ℕ) (line : ℕ) (tokens : List Token) → LacksToken text line → Spells text tokens → ⊥
no_spelling text line tokens p q =
    let rows = one_row text p.pieces q.pieces 0 p.place (length text) p.no_piece (stops_at_end text) p.row q.row in
    let inside = p.inside in
    omega (arith, rows.1)

pub one_line : (text : List ℕ) (line other : ℕ) → LacksToken text line → LacksToken text other → line ≡ other
one_line text line other p q =
    let rows = one_row text p.pieces q.pieces 0 p.place q.place p.no_piece q.no_piece p.row q.row in
    p.at_line ∙ ap (line_of text) rows.1 ∙ sym q.at_line

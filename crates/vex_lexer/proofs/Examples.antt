-- Worked examples: what the definitions say of texts, by computation.
use Rattle.std.proofs.Common.{◌≡◌, ℕ, zero, suc, ◌-◌, ◌≤◌, ◌<◌, List, [], ◌∷◌, length, take, drop, refl, subst, arith, Bool, true, false, if◌then◌else◌, inl, inr, codes, lit<, Some, None}
use Rattle.std.proofs.lemmas.Bool.{cases_lt}
use Rattle.std.specs.List.{slice_range}
use Rattle.vex_lexer.specs.declared.token.Token.{Token}
use Rattle.vex_lexer.specs.declared.token_kind.TokenKind.{TokenKind}
use Rattle.vex_lexer.specs.declared.token_kind.TokenKind.TheVariants as kind
use Rattle.vex_lexer.specs.declared.operator.Operator.TheVariants as mark
use Rattle.vex_lexer.specs.TokenKinds.{kind_of}
use Rattle.vex_lexer.specs.Escapes.{string_value}
use Rattle.vex_lexer.specs.Longest.{IsLongest}
use Rattle.vex_lexer.specs.Words.{is_token}
use Rattle.vex_lexer.specs.Gaps.{is_comment, begins_comment}
use Rattle.vex_lexer.specs.Spelling.{Between, Word, IsTokenAt, Spells, LacksToken, line_of}
use Rattle.vex_lexer.proofs.Longest.{longest_of, not_both}
use Rattle.vex_lexer.proofs.Scanned.{no_piece_there}

-- the longest beginning of at most so many bytes, by trying each length
greatest : (List ℕ → Bool) → List ℕ → ℕ → ℕ
greatest fits text zero = 0
greatest fits text (suc n) = if fits (take (suc n) text) then suc n else greatest fits text n

greatest_is : (fits : List ℕ → Bool) (text : List ℕ) (n : ℕ) → n ≤ length text → ((more : ℕ) → n < more → more ≤ length text → fits (take more text) ≡ true → ⊥) → IsLongest fits text (greatest fits text n)
unfolding greatest
greatest_is fits text zero inside none = longest_of fits text 0 (omega arith) (λ some. absurd (omega arith)) none
greatest_is fits text (suc n) inside none = elim (fits (take (suc n) text)) as (λ x. fits (take (suc n) text) ≡ x → IsLongest fits text (if x then suc n else greatest fits text n)) [
  | true ↦ λ fit. longest_of fits text (suc n) inside (λ some. fit) none
  | false ↦ λ unfit. greatest_is fits text n (omega arith) (λ more over within. elim (cases_lt (suc n) more) [
    | inl above ↦ none more above within
    | inr below ↦ (let e : more ≡ suc n = omega arith in λ fit. not_both _ (subst (λ m. fits (take m text) ≡ true) e fit) unfit)
  ])
] refl

tried : (fits : List ℕ → Bool) (text : List ℕ) → IsLongest fits text (greatest fits text (length text))
tried fits text = greatest_is fits text (length text) (omega arith) (λ more over within. absurd (omega arith))

longer_operator : IsLongest is_token (codes "<=1") 2
unfolding greatest
longer_operator = tried is_token (codes "<=1")

two_pluses : IsLongest is_token (codes "+++") 2
unfolding greatest
two_pluses = tried is_token (codes "+++")

point_last : IsLongest is_token (codes "1.;") 2
unfolding greatest
point_last = tried is_token (codes "1.;")

exponent : IsLongest is_token (codes ".5e+3x") 5
unfolding greatest
exponent = tried is_token (codes ".5e+3x")

exponent_without_digits : IsLongest is_token (codes "1e+x") 1
unfolding greatest
exponent_without_digits = tried is_token (codes "1e+x")

two_points : IsLongest is_token (codes "1.2.3") 3
unfolding greatest
two_points = tried is_token (codes "1.2.3")

no_sign : IsLongest is_token (codes "-1") 1
unfolding greatest
no_sign = tried is_token (codes "-1")

marked : IsLongest is_token (codes "f@x+") 3
unfolding greatest
marked = tried is_token (codes "f@x+")

list_marked : IsLongest is_token (codes "f[]@x.y") 5
unfolding greatest
list_marked = tried is_token (codes "f[]@x.y")

no_mark_of_a_list : IsLongest is_token (codes "f[]") 1
unfolding greatest
no_mark_of_a_list = tried is_token (codes "f[]")

mark_alone : IsLongest is_token (codes "@ x") 0
unfolding greatest
mark_alone = tried is_token (codes "@ x")

whole_name : IsLongest is_token (codes "intx ") 4
unfolding greatest
whole_name = tried is_token (codes "intx ")

slashes_in_a_string : IsLongest is_token (codes "'a//b'c") 6
unfolding greatest
slashes_in_a_string = tried is_token (codes "'a//b'c")

-- a quote, `a`, a backslash, the same quote, a quote: the first of the two is escaped
escaped_quote : IsLongest is_token (39 ∷ 97 ∷ 92 ∷ 39 ∷ 39 ∷ []) 5
unfolding greatest
escaped_quote = tried is_token (39 ∷ 97 ∷ 92 ∷ 39 ∷ 39 ∷ [])

wrong_escape : IsLongest is_token (39 ∷ 92 ∷ 113 ∷ 39 ∷ []) 0
unfolding greatest
wrong_escape = tried is_token (39 ∷ 92 ∷ 113 ∷ 39 ∷ [])

string_over_a_line_end : IsLongest is_token (39 ∷ 97 ∷ 10 ∷ 39 ∷ []) 0
unfolding greatest
string_over_a_line_end = tried is_token (39 ∷ 97 ∷ 10 ∷ 39 ∷ [])

return_in_a_string : IsLongest is_token (39 ∷ 13 ∷ 39 ∷ []) 3
unfolding greatest
return_in_a_string = tried is_token (39 ∷ 13 ∷ 39 ∷ [])

to_the_line_end : IsLongest is_comment (47 ∷ 47 ∷ 97 ∷ 13 ∷ 10 ∷ 98 ∷ []) 4
unfolding greatest
to_the_line_end = tried is_comment (47 ∷ 47 ∷ 97 ∷ 13 ∷ 10 ∷ 98 ∷ [])

first_end : IsLongest is_comment (codes "/*/*/*/") 5
unfolding greatest
first_end = tried is_comment (codes "/*/*/*/")

closes_nothing : IsLongest is_comment (codes "/*/") 0
unfolding greatest
closes_nothing = tried is_comment (codes "/*/")

-- the token of so many bytes of a text, with what is tried
abbrev cut : List ℕ → ℕ → ℕ → TokenKind → Token
cut text start end is = record { text = slice_range text start end; start = start; end = end; line = line_of text start; kind = is }

cut_there : (text : List ℕ) (start end : ℕ) (is : TokenKind) → kind_of (slice_range text start end) ≡ Some is → start < end → begins_comment (drop start text) ≡ false → IsLongest is_token (drop start text) (end - start) → IsTokenAt text start (cut text start end is)
cut_there text start end is kind some apart longest = record { begins_here = refl; some_byte = some; no_comment = apart; longest = longest; slice = refl; line = refl; kind = kind }

a_snippet : Spells (codes "@P.y = 1.5;") (
    record { text = codes "@P"; start = 0; end = 2; line = 1; kind = kind.AttributeName }
    ∷ record { text = codes "."; start = 2; end = 3; line = 1; kind = kind.Operator mark.Point }
    ∷ record { text = codes "y"; start = 3; end = 4; line = 1; kind = kind.Name }
    ∷ record { text = codes "="; start = 5; end = 6; line = 1; kind = kind.Operator mark.Assign }
    ∷ record { text = codes "1.5"; start = 7; end = 10; line = 1; kind = kind.Real }
    ∷ record { text = codes ";"; start = 10; end = 11; line = 1; kind = kind.Operator mark.Semicolon } ∷ [])
unfolding greatest
a_snippet =
    let text = codes "@P.y = 1.5;" in record {
      pieces = Word (cut text 0 2 kind.AttributeName) ∷ Word (cut text 2 3 (kind.Operator mark.Point)) ∷ Word (cut text 3 4 kind.Name) ∷ Between 1 ∷ Word (cut text 5 6 (kind.Operator mark.Assign)) ∷ Between 1 ∷ Word (cut text 7 10 kind.Real) ∷ Word (cut text 10 11 (kind.Operator mark.Semicolon)) ∷ [];
      row = (
        cut_there text 0 2 kind.AttributeName refl (lit< tt) refl (tried is_token text),
        (
          cut_there text 2 3 (kind.Operator mark.Point) refl (lit< tt) refl (tried is_token (drop 2 text)),
          (
            cut_there text 3 4 kind.Name refl (lit< tt) refl (tried is_token (drop 3 text)),
            (
              inl (refl, refl),
              (
                cut_there text 5 6 (kind.Operator mark.Assign) refl (lit< tt) refl (tried is_token (drop 5 text)),
                (
                  inl (refl, refl),
                  (
                    cut_there text 7 10 kind.Real refl (lit< tt) refl (tried is_token (drop 7 text)),
                    (
                      cut_there text 10 11 (kind.Operator mark.Semicolon) refl (lit< tt) refl (tried is_token (drop 10 text)),
                      refl,
                    ),
                  ),
                ),
              ),
            ),
          ),
        ),
      );
      same = refl;
    }

-- LF ends a line, and CR doesn't
second_line : Spells (13 ∷ 10 ∷ 120 ∷ []) (record { text = 120 ∷ []; start = 2; end = 3; line = 2; kind = kind.Name } ∷ [])
unfolding greatest
second_line = record {
  pieces = Between 1 ∷ Between 1 ∷ Word (cut (13 ∷ 10 ∷ 120 ∷ []) 2 3 kind.Name) ∷ [];
  row = (inl (refl, refl), (inl (refl, refl), (cut_there (13 ∷ 10 ∷ 120 ∷ []) 2 3 kind.Name refl (lit< tt) refl (tried is_token (120 ∷ [])), refl)));
  same = refl;
}

no_token : LacksToken (codes "a = #;") 1
unfolding greatest
no_token =
    let text = codes "a = #;" in record {
      pieces = Word (cut text 0 1 kind.Name) ∷ Between 1 ∷ Word (cut text 2 3 (kind.Operator mark.Assign)) ∷ Between 1 ∷ [];
      place = 4;
      row = (cut_there text 0 1 kind.Name refl (lit< tt) refl (tried is_token text), (inl (refl, refl), (cut_there text 2 3 (kind.Operator mark.Assign) refl (lit< tt) refl (tried is_token (drop 2 text)), (inl (refl, refl), refl))));
      inside = lit< tt;
      no_piece = λ piece. no_piece_there text 4 piece (refl, inr (refl, tried is_token (drop 4 text)));
      at_line = refl;
    }

unclosed_comment : LacksToken (codes "/* a") 1
unfolding greatest
unclosed_comment =
    let text = codes "/* a" in record {
      pieces = [];
      place = 0;
      row = refl;
      inside = lit< tt;
      no_piece = λ piece. no_piece_there text 0 piece (refl, inl (refl, tried is_comment text));
      at_line = refl;
    }

-- what words are
whole_number : kind_of (codes "012") ≡ Some kind.Whole
whole_number = refl

real_number : kind_of (codes "1e2") ≡ Some kind.Real
real_number = refl

no_keyword : kind_of (codes "For") ≡ Some kind.Name
no_keyword = refl

no_word : kind_of (codes "1x") ≡ None
no_word = refl

-- `'a\n\'\\é'`, with bytes for its escapes
value_of_a_string : string_value (39 ∷ 97 ∷ 92 ∷ 110 ∷ 92 ∷ 39 ∷ 92 ∷ 92 ∷ 195 ∷ 169 ∷ 39 ∷ []) ≡ Some (97 ∷ 10 ∷ 39 ∷ 92 ∷ 195 ∷ 169 ∷ [])
value_of_a_string = refl

value_of_no_string : string_value (codes "'a") ≡ None
value_of_no_string = refl

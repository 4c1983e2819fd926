-- A token begins and ends with an ASCII byte, so a text may be cut there.
use Rattle.std.proofs.Common.{◌≡◌, ℕ, zero, suc, ◌+◌, ◌-◌, ◌≤◌, ◌<◌, List, [], ◌∷◌, length, take, drop, refl, ap, sym, subst, ◌∙◌, arith, Bool, true, false, not, ◌&&◌, ◌||◌, ◌==◌, inl, inr, nat_eq, nat_lt, bytes_eq, get_or, if◌then◌else◌}
use Rattle.std.proofs.lemmas.Bool.{and_parts}
use Rattle.std.proofs.lemmas.Bool.Decides.{Decides-eqb}
use Rattle.std.proofs.lemmas.Grind.{common_steps}
use Rattle.std.proofs.lemmas.Slice.Eq.{bytes_eq-Decides}
use Rattle.std.proofs.lemmas.List.{get_or-drop, length-drop, take_all}
use Rattle.std.proofs.lemmas.Str.{IsCharBoundary-before_ascii, IsCharBoundary-after_ascii}
use Rattle.std.specs.Str.{IsUtf8, IsCharBoundary}
use Rattle.std.specs.List.{list_all, list_any, starts_with}
use Rattle.std.specs.Char.{is_ascii_digit}
use Rattle.sop_fixed.specs.Numerals.{is_sign, is_point, is_exponent_mark, is_some_digits}
use Rattle.sop_model.specs.Names.{starts_name, continues_name}
use Rattle.vex_lexer.specs.Words.{begins, is_number, is_name, marks, is_marked_name, is_attribute_name, is_quote, is_line_end, is_closed_by, is_string, is_operator, is_token}
use Rattle.vex_lexer.specs.declared.operator.Operator.{Operator}
use Rattle.vex_lexer.specs.Operators.{operators, text_of}
use Rattle.vex_lexer.specs.Parts.{is_signed_digits, is_loose_number, is_fraction, begins_number}
use Rattle.vex_lexer.proofs.Longest.{not_both}
use Rattle.vex_lexer.proofs.Numbers.{not_number, number_loose, fraction-digit, fraction-mark, fraction-other, loose-digit, loose-point, loose-mark, loose-other}
use Rattle.vex_lexer.proofs.Rows.{either_true}

-- whether the last byte is ASCII
abbrev pub ends_ascii : List ℕ → Bool
ends_ascii [] = false
ends_ascii (b ∷ []) = nat_lt b 128
ends_ascii (b ∷ c ∷ text) = ends_ascii (c ∷ text)

last-cons : (b : ℕ) (text : List ℕ) → ends_ascii text ≡ true → ends_ascii (b ∷ text) ≡ true
last-cons b [] e = absurd (not_both _ e refl)
last-cons b (c ∷ text) e = e

last-drop : (k : ℕ) (text : List ℕ) → ends_ascii (drop k text) ≡ true → ends_ascii text ≡ true
last-drop zero text e = e
last-drop (suc k) [] e = e
last-drop (suc k) (b ∷ text) e = last-cons b text (last-drop k text e)

-- a digit and a byte of a name
digit_ascii : (b : ℕ) → is_ascii_digit b ≡ true → nat_lt b 128 ≡ true
digit_ascii b d = grind (arith, common_steps)

start_ascii : (b : ℕ) → starts_name b ≡ true → nat_lt b 128 ≡ true
start_ascii b d = grind (arith, common_steps)

name_ascii : (b : ℕ) → continues_name b ≡ true → nat_lt b 128 ≡ true
name_ascii b d = grind (arith, common_steps)

quote_ascii : (b : ℕ) → is_quote b ≡ true → nat_lt b 128 ≡ true
quote_ascii b d = grind (arith, common_steps)

point_ascii : (b : ℕ) → is_point b ≡ true → nat_lt b 128 ≡ true
point_ascii b d = grind (arith, common_steps)

mark_ascii : (b : ℕ) → is_exponent_mark b ≡ true → nat_lt b 128 ≡ true
mark_ascii b d = grind (arith, common_steps)

-- the last byte of each kind of token

all_last : (passes : ℕ → Bool) → ((b : ℕ) → passes b ≡ true → nat_lt b 128 ≡ true) → (b : ℕ) (text : List ℕ) → list_all passes (b ∷ text) ≡ true → ends_ascii (b ∷ text) ≡ true
all_last passes small b [] h = small b (and_parts _ _ h).0
all_last passes small b (c ∷ text) h = all_last passes small c text (and_parts _ _ h).1

name_last : (word : List ℕ) → is_name word ≡ true → ends_ascii word ≡ true
name_last [] h = absurd (not_both _ h refl)
name_last (b ∷ text) h = all_last continues_name name_ascii b text (and_parts _ _ h).1

marked_last : (ms : List (List ℕ)) (word : List ℕ) → list_any (λ mark. is_marked_name mark word) ms ≡ true → ends_ascii word ≡ true
marked_last [] word h = absurd (not_both _ h refl)
marked_last (m ∷ ms) word h = elim (either_true (is_marked_name m word) (list_any (λ mark. is_marked_name mark word) ms) h) [
  | inl here ↦ last-drop (length m) word (name_last (drop (length m) word) (and_parts (starts_with nat_eq word m) (is_name (drop (length m) word)) here).1)
  | inr more ↦ marked_last ms word more
]

closed_last : (quote : ℕ) (escape : Bool) (text : List ℕ) → nat_lt quote 128 ≡ true → is_closed_by quote escape text ≡ true → ends_ascii text ≡ true
closed_last quote true [] small h = absurd (not_both _ h refl)
closed_last quote false [] small h = absurd (not_both _ h refl)
closed_last quote true (b ∷ text) small h = last-cons b text (closed_last quote false text small (and_parts _ _ h).1)
closed_last quote false (b ∷ []) small h = elim (b == quote) as (λ x. (b == quote) ≡ x → (if x then true else not (is_line_end b) && is_closed_by quote (b == 92) []) ≡ true → nat_lt b 128 ≡ true) [
  | true ↦ λ e any. ap (λ n. nat_lt n 128) ((Decides-eqb b quote).0 e) ∙ small
  | false ↦ λ e any. absurd (not_both _ (closed_last quote (b == 92) [] small (and_parts _ _ any).1) refl)
] refl h
closed_last quote false (b ∷ c ∷ text) small h = elim (b == quote) as (λ x. (if x then length (c ∷ text) == 0 else not (is_line_end b) && is_closed_by quote (b == 92) (c ∷ text)) ≡ true → ends_ascii (c ∷ text) ≡ true) [
  | true ↦ λ none. absurd (let e : length (c ∷ text) ≡ 0 = (Decides-eqb (length (c ∷ text)) 0).0 none in omega arith)
  | false ↦ λ any. closed_last quote (b == 92) (c ∷ text) small (and_parts _ _ any).1
] h

string_last : (word : List ℕ) → is_string word ≡ true → ends_ascii word ≡ true
string_last [] h = absurd (not_both _ h refl)
string_last (quote ∷ text) h = last-cons quote text (closed_last quote false text (quote_ascii quote (and_parts _ _ h).0) (and_parts _ _ h).1)

table_last : (table : List Operator) (word : List ℕ) → list_all (λ o. ends_ascii (text_of o)) table ≡ true → list_any (λ o. bytes_eq (text_of o) word) table ≡ true → ends_ascii word ≡ true
table_last [] word all h = absurd (not_both _ h refl)
table_last (o ∷ table) word all h = elim (either_true (bytes_eq (text_of o) word) (list_any (λ x. bytes_eq (text_of x) word) table) h) [
  | inl here ↦ ap ends_ascii (sym ((bytes_eq-Decides (text_of o) word).0 here)) ∙ (and_parts _ _ all).0
  | inr more ↦ table_last table word (and_parts _ _ all).1 more
]

digits_last : (text : List ℕ) → is_some_digits text ≡ true → ends_ascii text ≡ true
digits_last [] h = absurd (not_both _ h refl)
digits_last (b ∷ text) h = all_last is_ascii_digit digit_ascii b text (and_parts _ _ h).1

signed_last : (text : List ℕ) → is_signed_digits text ≡ true → ends_ascii text ≡ true
signed_last [] h = absurd (not_both _ h refl)
signed_last (b ∷ text) h = elim (is_sign b) as (λ x. is_some_digits (if x then text else b ∷ text) ≡ true → ends_ascii (b ∷ text) ≡ true) [
  | true ↦ λ any. last-cons b text (digits_last text any)
  | false ↦ λ any. digits_last (b ∷ text) any
] h

-- what goes on behind a byte of a number
fraction_end : (b : ℕ) (text : List ℕ) → nat_lt b 128 ≡ true → is_fraction text ≡ true → ends_ascii (b ∷ text) ≡ true
fraction_end b [] small h = small
fraction_end b (c ∷ text) small h = elim (is_exponent_mark c) as (λ x. is_exponent_mark c ≡ x → ends_ascii (c ∷ text) ≡ true) [
  | true ↦ λ e. last-cons c text (signed_last text (sym (fraction-mark c text e) ∙ h))
  | false ↦ λ e. elim (is_ascii_digit c) as (λ x. is_ascii_digit c ≡ x → ends_ascii (c ∷ text) ≡ true) [
    | true ↦ λ d. fraction_end c text (digit_ascii c d) (sym (fraction-digit c text d) ∙ h)
    | false ↦ λ d. absurd (not_both _ h (fraction-other c text e d))
  ] refl
] refl

loose_end : (b : ℕ) (text : List ℕ) → nat_lt b 128 ≡ true → is_loose_number text ≡ true → ends_ascii (b ∷ text) ≡ true
loose_end b [] small h = small
loose_end b (c ∷ text) small h = elim (is_exponent_mark c) as (λ x. is_exponent_mark c ≡ x → ends_ascii (c ∷ text) ≡ true) [
  | true ↦ λ e. last-cons c text (signed_last text (sym (loose-mark c text e) ∙ h))
  | false ↦ λ e. elim (is_point c) as (λ x. is_point c ≡ x → ends_ascii (c ∷ text) ≡ true) [
    | true ↦ λ p. fraction_end c text (point_ascii c p) (sym (loose-point c text p) ∙ h)
    | false ↦ λ p. elim (is_ascii_digit c) as (λ x. is_ascii_digit c ≡ x → ends_ascii (c ∷ text) ≡ true) [
      | true ↦ λ d. loose_end c text (digit_ascii c d) (sym (loose-digit c text d) ∙ h)
      | false ↦ λ d. absurd (not_both _ h (loose-other c text e p d))
    ] refl
  ] refl
] refl

number_last : (word : List ℕ) → is_number word ≡ true → ends_ascii word ≡ true
number_last [] h = absurd (not_both _ h refl)
number_last (b ∷ text) h = loose_end 48 (b ∷ text) refl (number_loose (b ∷ text) h)

-- one of five
by_kind : (P : List ℕ → Type 0) → ((word : List ℕ) → is_number word ≡ true → P word) → ((word : List ℕ) → is_name word ≡ true → P word)
    → ((word : List ℕ) → is_attribute_name word ≡ true → P word) → ((word : List ℕ) → is_string word ≡ true → P word) → ((word : List ℕ) → is_operator word ≡ true → P word)
    → (word : List ℕ) → is_token word ≡ true → P word
by_kind P number name attribute string operator word h = elim (either_true (is_number word || is_name word || is_attribute_name word || is_string word) (is_operator word) h) [
  | inr o ↦ operator word o
  | inl h ↦ elim (either_true (is_number word || is_name word || is_attribute_name word) (is_string word) h) [
    | inr s ↦ string word s
    | inl h ↦ elim (either_true (is_number word || is_name word) (is_attribute_name word) h) [
      | inr a ↦ attribute word a
      | inl h ↦ elim (either_true (is_number word) (is_name word) h) [ inr n ↦ name word n | inl n ↦ number word n ]
    ]
  ]
]

pub token_last : (word : List ℕ) → is_token word ≡ true → ends_ascii word ≡ true
token_last = by_kind (λ word. ends_ascii word ≡ true) number_last name_last (λ word h. marked_last marks word h) string_last (λ word h. table_last operators word refl h)

-- the first byte of each kind of token

abbrev pub begins_ascii : List ℕ → Bool
begins_ascii text = begins (λ b. nat_lt b 128) text

number_first : (word : List ℕ) → is_number word ≡ true → begins_ascii word ≡ true
number_first [] h = absurd (not_both _ h refl)
number_first (b ∷ text) h = elim (begins_number (b ∷ text)) as (λ x. begins_number (b ∷ text) ≡ x → nat_lt b 128 ≡ true) [
  | true ↦ λ e. elim (either_true (is_ascii_digit b) (is_point b && begins is_ascii_digit text) e) [ inl d ↦ digit_ascii b d | inr p ↦ point_ascii b (and_parts _ _ p).0 ]
  | false ↦ λ e. absurd (not_both _ h (not_number (b ∷ text) e))
] refl

name_first : (word : List ℕ) → is_name word ≡ true → begins_ascii word ≡ true
name_first [] h = absurd (not_both _ h refl)
name_first (b ∷ text) h = start_ascii b (and_parts _ _ h).0

starts_first : (m word : List ℕ) → begins_ascii m ≡ true → starts_with nat_eq word m ≡ true → begins_ascii word ≡ true
starts_first [] word small h = absurd (not_both _ small refl)
starts_first (c ∷ m) [] small h = absurd (not_both _ h refl)
starts_first (c ∷ m) (b ∷ word) small h = ap (λ n. nat_lt n 128) (sym ((Decides-eqb c b).0 (and_parts _ _ h).0)) ∙ small

marked_first : (ms : List (List ℕ)) (word : List ℕ) → list_all begins_ascii ms ≡ true → list_any (λ mark. is_marked_name mark word) ms ≡ true → begins_ascii word ≡ true
marked_first [] word all h = absurd (not_both _ h refl)
marked_first (m ∷ ms) word all h = elim (either_true (is_marked_name m word) (list_any (λ mark. is_marked_name mark word) ms) h) [
  | inl here ↦ starts_first m word (and_parts _ _ all).0 (and_parts (starts_with nat_eq word m) (is_name (drop (length m) word)) here).0
  | inr more ↦ marked_first ms word (and_parts _ _ all).1 more
]

string_first : (word : List ℕ) → is_string word ≡ true → begins_ascii word ≡ true
string_first [] h = absurd (not_both _ h refl)
string_first (quote ∷ text) h = quote_ascii quote (and_parts _ _ h).0

table_first : (table : List Operator) (word : List ℕ) → list_all (λ o. begins_ascii (text_of o)) table ≡ true → list_any (λ o. bytes_eq (text_of o) word) table ≡ true → begins_ascii word ≡ true
table_first [] word all h = absurd (not_both _ h refl)
table_first (o ∷ table) word all h = elim (either_true (bytes_eq (text_of o) word) (list_any (λ x. bytes_eq (text_of x) word) table) h) [
  | inl here ↦ ap begins_ascii (sym ((bytes_eq-Decides (text_of o) word).0 here)) ∙ (and_parts _ _ all).0
  | inr more ↦ table_first table word (and_parts _ _ all).1 more
]

token_first : (word : List ℕ) → is_token word ≡ true → begins_ascii word ≡ true
token_first = by_kind (λ word. begins_ascii word ≡ true) number_first name_first (λ word h. marked_first marks word refl h) string_first (λ word h. table_first operators word refl h)

-- where a token may be cut out of its text

small_from : (b : ℕ) → nat_lt b 128 ≡ true → b < 128
small_from b h = grind arith

first_at : (text : List ℕ) (i n : ℕ) → begins_ascii (take n (drop i text)) ≡ true → (i < length text) × (get_or text i 0 < 128)
first_at [] zero zero h = absurd (not_both _ h refl)
first_at [] zero (suc n) h = absurd (not_both _ h refl)
first_at [] (suc i) zero h = absurd (not_both _ h refl)
first_at [] (suc i) (suc n) h = absurd (not_both _ h refl)
first_at (b ∷ text) zero zero h = absurd (not_both _ h refl)
first_at (b ∷ text) zero (suc n) h = (omega arith, small_from b h)
first_at (b ∷ text) (suc i) n h = (let rest = first_at text i n h in (omega (arith, rest.0), rest.1))

last_at : (text : List ℕ) (n : ℕ) → ends_ascii (take (suc n) text) ≡ true → suc n ≤ length text → get_or text n 0 < 128
last_at [] n h inside = absurd (omega arith)
last_at (b ∷ text) zero h inside = small_from b h
last_at (b ∷ []) (suc n) h inside = absurd (omega arith)
last_at (b ∷ c ∷ text) (suc n) h inside = last_at (c ∷ text) n h (omega arith)

pub token_boundaries : (text : List ℕ) (start len : ℕ) → IsUtf8 text → is_token (take len (drop start text)) ≡ true → 0 < len → start + len ≤ length text
    → IsCharBoundary text start × IsCharBoundary text (start + len)
token_boundaries text start zero utf8 h some inside = absurd (omega arith)
token_boundaries text start (suc n) utf8 h some inside =
    let first = first_at text start (suc n) (token_first (take (suc n) (drop start text)) h) in
    let size : length (drop start text) ≡ length text - start = length-drop start text in
    let last : get_or (drop start text) n 0 < 128 = last_at (drop start text) n (token_last (take (suc n) (drop start text)) h) (omega arith) in
    let small : get_or text (start + n) 0 < 128 = subst (λ b. b < 128) (get_or-drop start text n 0) last in
    let e : start + n + 1 ≡ start + suc n = omega arith in
    (IsCharBoundary-before_ascii text start first.0 first.1, subst (IsCharBoundary text) e (IsCharBoundary-after_ascii text (start + n) utf8 (omega arith) small))

-- where the inside of a string may be cut out
pub string_inside : (word : List ℕ) → IsUtf8 word → is_string word ≡ true → (2 ≤ length word) × IsCharBoundary word 1 × IsCharBoundary word (length word - 1)
string_inside [] utf8 h = absurd (not_both _ h refl)
string_inside (quote ∷ []) utf8 h = absurd (not_both _ (and_parts _ _ h).1 refl)
string_inside (quote ∷ b ∷ text) utf8 h =
    let word = quote ∷ b ∷ text in
    let first : quote < 128 = small_from quote (quote_ascii quote (and_parts _ _ h).0) in
    let all : take (suc (suc (length text))) word ≡ word = take_all (suc (suc (length text))) word (omega arith) in
    let last : get_or word (suc (length text)) 0 < 128 = last_at word (suc (length text)) (ap ends_ascii all ∙ string_last word h) (omega arith) in
    let e : suc (length text) ≡ length word - 1 = omega arith in
    (omega arith, IsCharBoundary-after_ascii word 0 utf8 (omega arith) first, subst (IsCharBoundary word) e (IsCharBoundary-before_ascii word (suc (length text)) (omega arith) last))

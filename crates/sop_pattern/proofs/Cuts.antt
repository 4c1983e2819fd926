-- Texts that are cut at a mark.
use Rattle.std.proofs.Common.{◌≡◌, ℕ, ◌+◌, Bool, true, false, List, [], ◌∷◌, ◌++◌, length, length-append, get_or, take, drop, refl, sym, ap, ◌∙◌, Some, None, arith}
use Rattle.std.specs.Prelude.{◌&&◌, ◌==◌, nat_le, nat_lt, cond, if◌then◌else◌, is_some}
use Rattle.std.specs.List.{list_all, position_or_len, after_first}
use Rattle.std.specs.Char.{is_ascii_digit}
use Rattle.std.proofs.Math.Seq.{take-append_seam, drop-append-add, take-length}
use Rattle.std.proofs.lemmas.Bool.{and_parts, lt-ltb, le-ltb, ltb-true, ltb-false, leb-true, le-leb, eqb-true, eq-eqb, ne_eqb}
use Rattle.std.proofs.lemmas.List.{take_all}
use Rattle.std.proofs.lemmas.List.Sums.{split_at_first, passes_at_first}
use Rattle.sop_fixed.specs.Numerals.{is_some_digits, number_of}
use Rattle.sop_pattern.specs.Words.{most_digits, number_in, before, behind}
use Rattle.sop_pattern.specs.Spelling.{IsNumber}

-- ---- a number
if_number : (b : Bool) (x n : ℕ) → (if b then Some x else None) ≡ Some n → (b ≡ true) × (x ≡ n)
if_number true x n e = (refl, cc)
if_number false x n e = cc

pub number_is : (text : List ℕ) (n : ℕ) → number_in text ≡ Some n → IsNumber text n
number_is text n e =
    let is = if_number (is_some_digits text && nat_le (length text) most_digits) (number_of text) n e in
    let parts = and_parts (is_some_digits text) (nat_le (length text) most_digits) is.0 in
    let front = and_parts (nat_lt 0 (length text)) (list_all is_ascii_digit text) parts.0 in
    record { digits = front.1; some = ltb-true 0 (length text) front.0; few = leb-true (length text) most_digits parts.1; value = is.1 }

pub number_from : (text : List ℕ) (n : ℕ) → IsNumber text n → number_in text ≡ Some n
number_from text n is =
    let some : nat_lt 0 (length text) ≡ true = lt-ltb 0 (length text) is.some in
    let few : nat_le (length text) most_digits ≡ true = le-leb (length text) most_digits is.few in
    let digits : list_all is_ascii_digit text ≡ true = is.digits in
    rw (some, digits, few) (ap Some is.value)

-- ---- digits have no mark
no_mark : (mark d : ℕ) → is_ascii_digit mark ≡ false → is_ascii_digit d ≡ true → (d == mark) ≡ false
no_mark mark d off on = ne_eqb d mark (λ e. let no : false ≡ true = sym off ∙ ap is_ascii_digit (sym e) ∙ on in absurd cc)

mark_at : (mark : ℕ) (x y : List ℕ) → is_ascii_digit mark ≡ false → list_all is_ascii_digit x ≡ true → position_or_len (λ b. b == mark) (x ++ mark ∷ y) ≡ length x
mark_at mark [] y off all = let here : (mark == mark) ≡ true = eq-eqb mark mark refl in rw here
mark_at mark (d ∷ x) y off all =
    let parts = and_parts (is_ascii_digit d) (list_all is_ascii_digit x) all in
    let no : (d == mark) ≡ false = no_mark mark d off parts.0 in
    let later = mark_at mark x y off parts.1 in
    rw no (omega (arith, later))

mark_nowhere : (mark : ℕ) (x : List ℕ) → is_ascii_digit mark ≡ false → list_all is_ascii_digit x ≡ true → position_or_len (λ b. b == mark) x ≡ length x
mark_nowhere mark [] off all = refl
mark_nowhere mark (d ∷ x) off all =
    let parts = and_parts (is_ascii_digit d) (list_all is_ascii_digit x) all in
    let no : (d == mark) ≡ false = no_mark mark d off parts.0 in
    let later = mark_nowhere mark x off parts.1 in
    rw no (omega (arith, later))

pub before_at : (mark : ℕ) (x y : List ℕ) → is_ascii_digit mark ≡ false → list_all is_ascii_digit x ≡ true → before mark (x ++ mark ∷ y) ≡ x
before_at mark x y off all = ap (λ n. take n (x ++ mark ∷ y)) (mark_at mark x y off all) ∙ take-append_seam x (mark ∷ y)

choice : (n len : ℕ) (rest : List ℕ) → (if is_some (cond (nat_lt n len) (Some n) None) then Some rest else None) ≡ (if nat_lt n len then Some rest else None)
choice n len rest = chosen (nat_lt n len)
  where
    chosen : (b : Bool) → (if is_some (cond b (Some n) None) then Some rest else None) ≡ (if b then Some rest else None)
    chosen true = refl
    chosen false = refl

behind_is : (mark : ℕ) (text : List ℕ) → behind mark text ≡ (if nat_lt (position_or_len (λ b. b == mark) text) (length text) then Some (after_first (λ b. b == mark) text) else None)
behind_is mark text = choice (position_or_len (λ b. b == mark) text) (length text) (after_first (λ b. b == mark) text)

pub behind_at : (mark : ℕ) (x y : List ℕ) → is_ascii_digit mark ≡ false → list_all is_ascii_digit x ≡ true → behind mark (x ++ mark ∷ y) ≡ Some y
behind_at mark x y off all =
    let text = x ++ mark ∷ y in
    let inside : nat_lt (length x) (length text) ≡ true = lt-ltb (length x) (length text) (omega (arith, length-append x (mark ∷ y))) in
    behind_is mark text
    ∙ ap (λ n. if nat_lt n (length text) then Some (drop (n + 1) text) else None) (mark_at mark x y off all)
    ∙ ap (λ b. if b then Some (drop (length x + 1) text) else None) inside
    ∙ ap Some (drop-append-add x (mark ∷ y) 1)

pub before_nowhere : (mark : ℕ) (x : List ℕ) → is_ascii_digit mark ≡ false → list_all is_ascii_digit x ≡ true → before mark x ≡ x
before_nowhere mark x off all = ap (λ n. take n x) (mark_nowhere mark x off all) ∙ take-length x

pub behind_nowhere : (mark : ℕ) (x : List ℕ) → is_ascii_digit mark ≡ false → list_all is_ascii_digit x ≡ true → behind mark x ≡ None
behind_nowhere mark x off all =
    let past : nat_lt (length x) (length x) ≡ false = le-ltb (length x) (length x) (omega arith) in
    behind_is mark x
    ∙ ap (λ n. if nat_lt n (length x) then Some (drop (n + 1) x) else None) (mark_nowhere mark x off all)
    ∙ ap (λ b. if b then Some (drop (length x + 1) x) else None) past

-- ---- what a cut says of the text
if_rest : (b : Bool) (x y : List ℕ) → (if b then Some x else None) ≡ Some y → (b ≡ true) × (x ≡ y)
if_rest true x y e = (refl, cc)
if_rest false x y e = cc

if_no_rest : (b : Bool) (x : List ℕ) → (if b then Some x else None) ≡ None → b ≡ false
if_no_rest true x e = cc
if_no_rest false x e = refl

pub cut_whole : (mark : ℕ) (text rest : List ℕ) → behind mark text ≡ Some rest → text ≡ before mark text ++ mark ∷ rest
cut_whole mark text rest e =
    let passes = λ (b : ℕ). b == mark in
    let at = if_rest (nat_lt (position_or_len passes text) (length text)) (after_first passes text) rest (sym (behind_is mark text) ∙ e) in
    let lt = ltb-true (position_or_len passes text) (length text) at.0 in
    let here : get_or text (position_or_len passes text) 0 ≡ mark = eqb-true (get_or text (position_or_len passes text) 0) mark (passes_at_first passes text 0 lt) in
    split_at_first passes text 0 lt ∙ ap (λ b. before mark text ++ b ∷ after_first passes text) here ∙ ap (λ l. before mark text ++ mark ∷ l) at.1

pub uncut : (mark : ℕ) (text : List ℕ) → behind mark text ≡ None → before mark text ≡ text
uncut mark text e =
    let passes = λ (b : ℕ). b == mark in
    let no = if_no_rest (nat_lt (position_or_len passes text) (length text)) (after_first passes text) (sym (behind_is mark text) ∙ e) in
    take_all (position_or_len passes text) text (ltb-false (position_or_len passes text) (length text) no)

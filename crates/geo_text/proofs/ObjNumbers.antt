-- References that only say the number of a point.
use Rattle.std.proofs.Common.{◌≡◌, ℕ, zero, suc, ◌+◌, ◌-◌, ◌*◌, ◌<◌, ◌≤◌, List, [], ◌∷◌, ◌++◌, length, get_or, take, drop, true, false, refl, sym, ap, ◌∙◌, subst, arith}
use Rattle.std.specs.Prelude.{◌==◌, ◌&&◌, nat_lt, if◌then◌else◌}
use Rattle.std.specs.List.{slice_split}
use Rattle.std.specs.Char.{is_ascii_digit}
use Rattle.std.proofs.lemmas.Bool.{and_parts}
use Rattle.std.proofs.lemmas.Bool.Decides.{nat_tests}
use Rattle.std.proofs.lemmas.List.{take_rest, take-append-drop}
use Rattle.sop_fixed.specs.Numerals.{are_digits, is_some_digits, number_of, after_sign, is_sign}
use Rattle.sop_fixed.proofs.NumberOf.{number_of-append}
use Rattle.geo_text.specs.ObjLines.{joined, before_comment}
use Rattle.geo_text.specs.ObjScan.{is_word, is_apart, begins_word, ends_word}
use Rattle.geo_text.specs.ObjStatements.{Ahead, Absent, Wrong, counted, part_of, reference_of, reference_from, without_empty_end}
use Rattle.geo_text.specs.ObjReferences.{said_number, SaysNumber}
use Rattle.geo_text.proofs.ObjScanning.{word_here, blank_before}

-- ---- one more digit
take_next : (text : List ℕ) (len : ℕ) → len < length text → take (len + 1) text ≡ take len text ++ get_or text len 0 ∷ []
take_next [] len h = absurd (omega (arith, h))
take_next (x ∷ text) zero h = refl
take_next (x ∷ text) (suc len) h =
    let next : suc len + 1 ≡ suc (len + 1) = omega arith in
    ap (λ n. take n (x ∷ text)) next ∙ ap (λ l. x ∷ l) (take_next text len (omega (arith, h)))

digits_next : (digits : List ℕ) (b : ℕ) → are_digits digits ≡ true → is_ascii_digit b ≡ true → are_digits (digits ++ b ∷ []) ≡ true
digits_next [] b h d = rw d refl
digits_next (x ∷ digits) b h d =
    let parts = and_parts (is_ascii_digit x) (are_digits digits) h in
    rw parts.0 (digits_next digits b parts.1 d)

pub more_digits : (text : List ℕ) (len : ℕ) → len < length text → are_digits (take len text) ≡ true → is_ascii_digit (get_or text len 0) ≡ true → are_digits (take (len + 1) text) ≡ true
more_digits text len within h d = ap are_digits (take_next text len within) ∙ digits_next (take len text) (get_or text len 0) h d

pub more_number : (text : List ℕ) (len number : ℕ) → len < length text → number ≡ number_of (take len text) → number * 10 + (get_or text len 0 - 48) ≡ number_of (take (len + 1) text)
more_number text len number within e =
    let b = get_or text len 0 in
    let whole : number_of (take (len + 1) text) ≡ number_of (take len text) * 10 + number_of (b ∷ []) =
    ap number_of (take_next text len within) ∙ number_of-append (take len text) (b ∷ []) in
    let one : number_of (b ∷ []) ≡ (b - 48) * 1 + 0 = refl in
    omega (arith, whole, one, e)

-- ---- digits are a word
pub digit_most : (b : ℕ) → is_ascii_digit b ≡ true → b ≤ 57
digit_most b h = grind (arith, nat_tests)

digits_joined : (word rest : List ℕ) → are_digits word ≡ true → joined (word ++ rest) ≡ word ++ joined rest
digits_joined [] rest h = refl
digits_joined (b ∷ word) rest h =
    let parts = and_parts (is_ascii_digit b) (are_digits word) h in
    let plain : (b == 92) ≡ false = grind (arith, nat_tests) in
    rw plain (ap (λ l. b ∷ l) (digits_joined word rest parts.1))

digits_word : (word : List ℕ) → are_digits word ≡ true → is_word word ≡ true
digits_word [] h = refl
digits_word (b ∷ word) h =
    let parts = and_parts (is_ascii_digit b) (are_digits word) h in
    let inside : ends_word b ≡ false = grind (arith, nat_tests) in
    rw inside (digits_word word parts.1)

digits_whole : (word : List ℕ) → are_digits word ≡ true → slice_split (λ b. b == 47) word ≡ word ∷ []
digits_whole [] h = refl
digits_whole (b ∷ word) h =
    let parts = and_parts (is_ascii_digit b) (are_digits word) h in
    let plain : (b == 47) ≡ false = grind (arith, nat_tests) in
    rw (plain, digits_whole word parts.1) refl

digits_part : (b : ℕ) (word : List ℕ) → are_digits (b ∷ word) ≡ true → part_of (b ∷ word) ≡ Ahead (number_of (b ∷ word))
digits_part b word h =
    let parts = and_parts (is_ascii_digit b) (are_digits word) h in
    let unsigned : is_sign b ≡ false = grind (arith, nat_tests) in
    let plus : (b == 45) ≡ false = grind (arith, nat_tests) in
    let whole : after_sign (b ∷ word) ≡ b ∷ word = rw unsigned refl in
    let some : nat_lt 0 (length (b ∷ word)) ≡ true = grind (arith, nat_tests) in
    let all : is_some_digits (b ∷ word) ≡ true = ap (λ t. t && are_digits (b ∷ word)) some ∙ h in
    ap (λ w. if is_some_digits w then counted (b == 45) (number_of w) else Wrong) whole
    ∙ ap (λ t. if t then counted (b == 45) (number_of (b ∷ word)) else Wrong) all
    ∙ ap (λ t. counted t (number_of (b ∷ word))) plus

digits_reference : (b : ℕ) (word : List ℕ) → are_digits (b ∷ word) ≡ true → reference_of (b ∷ word) ≡ said_number (number_of (b ∷ word))
digits_reference b word h =
    ap (λ parts. reference_from (without_empty_end parts)) (digits_whole (b ∷ word) h)
    ∙ ap (λ p. record { point = p; texture = Absent; normal = Absent; is_long = false }) (digits_part b word h)

digits_begin : (b : ℕ) (word : List ℕ) → are_digits (b ∷ word) ≡ true → begins_word (b ∷ word) ≡ true
digits_begin b word h =
    let parts = and_parts (is_ascii_digit b) (are_digits word) h in
    let plain : (b == 35) ≡ false = grind (arith, nat_tests) in
    rw plain refl

says_number : (word rest : List ℕ) (number : ℕ) → 0 < length word → are_digits word ≡ true → number ≡ number_of word → is_apart (joined rest) ≡ true → SaysNumber (32 ∷ word ++ rest) number rest
says_number [] rest number some h e apart = absurd (omega (arith, some))
says_number (b ∷ word) rest number some h e apart =
    let text = b ∷ word ++ rest in
    let words = word_here text (b ∷ word) rest (digits_joined (b ∷ word) rest h) (digits_word (b ∷ word) h) apart (digits_begin b word h) in
    (b ∷ word, ap before_comment (blank_before 32 (joined text) refl) ∙ words, digits_reference b word h ∙ ap said_number (sym e))

pub number_here : (text word : List ℕ) (len number : ℕ) → text ≡ 32 ∷ word → 0 < len → len ≤ length word → are_digits (take len word) ≡ true → number ≡ number_of (take len word)
    → is_apart (joined (drop len word)) ≡ true → SaysNumber text number (drop len word)
number_here text word zero number e some within h n apart = absurd (omega (arith, some))
number_here text [] (suc len) number e some within h n apart = absurd (omega (arith, within))
number_here text (b ∷ word) (suc len) number e some within h n apart =
    let kept : take (suc len) (b ∷ word) ++ drop (suc len) (b ∷ word) ≡ b ∷ word = ap (λ l. b ∷ l) (take-append-drop len word) in
    subst (λ t. SaysNumber t number (drop (suc len) (b ∷ word))) (ap (λ l. 32 ∷ l) kept ∙ sym e)
    (says_number (take (suc len) (b ∷ word)) (drop (suc len) (b ∷ word)) number (omega arith) h n apart)

pub first_byte : (text : List ℕ) (first : ℕ) → 1 ≤ length text → get_or text 0 0 ≡ first → text ≡ first ∷ take (length text - 1) (drop 1 text)
first_byte [] first some is = absurd (omega (arith, some))
first_byte (b ∷ text) first some is = ap (λ x. x ∷ text) is ∙ ap (λ l. first ∷ l) (sym (take_rest (b ∷ text) 1))

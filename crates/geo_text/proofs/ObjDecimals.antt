-- Plain decimals at the start of a text: their values, and that they are words.
use Rattle.std.proofs.Common.{◌≡◌, ◌≢◌, ℕ, ℤ, zero, suc, ◌+◌, ◌-◌, ◌*◌, ◌^◌, ◌<◌, ◌≤◌, List, [], ◌∷◌, ◌++◌, length, take, drop, append_assoc, append-nil, Bool, true, false, Ok, refl, sym, ap, ◌∙◌, subst, arith}
use Rattle.std.specs.Prelude.{◌==◌, nat_lt}
use Rattle.std.specs.List.{list_all, position_or_len}
use Rattle.std.specs.Char.{is_ascii_digit}
use Rattle.std.proofs.lemmas.Bool.{and_parts, and_from}
use Rattle.std.proofs.lemmas.Bool.Decides.{nat_tests}
use Rattle.std.proofs.lemmas.List.{take-append-drop}
use Rattle.std.proofs.lemmas.List.Folds.{list_all-append}
use Rattle.std.proofs.lemmas.Nat.{pow-add}
use Rattle.sop_fixed.specs.Numbers.{signed, nearest}
use Rattle.sop_fixed.specs.Numerals.{are_digits, is_some_digits, digits_of, whole_of, fraction_of, number_of, is_sign, is_point, sign_text, in_range, value_of}
use Rattle.sop_fixed.proofs.NumberOf.{number_of-append}
use Rattle.sop_fixed.proofs.Rounding.{nearest_whole}
use Rattle.sop_fixed.proofs.Plain.{value_of_plain}
use Rattle.geo_text.specs.ObjLines.{joined, before_comment}
use Rattle.geo_text.specs.ObjScan.{words_here, is_word, is_apart, begins_word, ends_word}
use Rattle.geo_text.specs.ObjDecimals.{is_number_byte, IsPlainSize, LeadsWith, SaysDecimal}
use Rattle.geo_text.proofs.ObjScanning.{word_here, blank_before}

-- ---- digits before a point
whole_front : (digits text : List ℕ) → are_digits digits ≡ true → whole_of (digits ++ text) ≡ digits ++ whole_of text
whole_front [] text h = refl
whole_front (b ∷ digits) text h =
    let parts = and_parts (is_ascii_digit b) (are_digits digits) h in
    let other : is_point b ≡ false = grind (arith, nat_tests) in
    let at : position_or_len is_point (b ∷ digits ++ text) ≡ suc (position_or_len is_point (digits ++ text)) = rw other (omega arith) in
    ap (λ n. take n (b ∷ digits ++ text)) at ∙ ap (λ l. b ∷ l) (whole_front digits text parts.1)

fraction_front : (digits text : List ℕ) → are_digits digits ≡ true → fraction_of (digits ++ text) ≡ fraction_of text
fraction_front [] text h = refl
fraction_front (b ∷ digits) text h =
    let parts = and_parts (is_ascii_digit b) (are_digits digits) h in
    let other : is_point b ≡ false = grind (arith, nat_tests) in
    let k = position_or_len is_point (digits ++ text) in
    let at : position_or_len is_point (b ∷ digits ++ text) ≡ suc k = rw other (omega arith) in
    ap (λ n. drop (n + 1) (b ∷ digits ++ text)) at ∙ ap (λ n. drop n (b ∷ digits ++ text)) (let e : suc k + 1 ≡ suc (k + 1) = omega arith in e) ∙ fraction_front digits text parts.1

digits_inside : (digits : List ℕ) → are_digits digits ≡ true → list_all is_number_byte digits ≡ true
digits_inside [] h = refl
digits_inside (b ∷ digits) h =
    let parts = and_parts (is_ascii_digit b) (are_digits digits) h in
    let inside : is_number_byte b ≡ true = grind (arith, nat_tests) in
    rw inside (digits_inside digits parts.1)

-- ---- what they say
raised : (whole fraction k : ℕ) → k ≤ 6 → whole * 1000000 + fraction * 10 ^ (6 - k) ≡ (whole * 10 ^ k + fraction) * 10 ^ (6 - k)
raised whole fraction k few =
    let p : 10 ^ k * 10 ^ (6 - k) ≡ 1000000 = sym (pow-add 10 k (6 - k)) ∙ ap (λ e. 10 ^ e) (let e : k + (6 - k) ≡ 6 = omega (arith, few) in e) in
    let q : whole * (10 ^ k * 10 ^ (6 - k)) ≡ whole * 1000000 = ap (λ n. whole * n) p in
    omega (arith, q)

plain_size : (digits places text : List ℕ) (size : ℕ) → 0 < length digits → are_digits digits ≡ true → are_digits places ≡ true → length places ≤ 6
    → whole_of text ≡ [] → fraction_of text ≡ places → list_all is_number_byte text ≡ true
    → size ≡ number_of digits * 1000000 + number_of places * 10 ^ (6 - length places) → IsPlainSize (digits ++ text) size
plain_size [] places text size some h all few whole fraction inside e = absurd (omega (arith, some))
plain_size (b ∷ digits) places text size some h all few whole fraction inside e =
    let parts = and_parts (is_ascii_digit b) (are_digits digits) h in
    let unsigned : is_sign b ≡ false = grind (arith, nat_tests) in
    let plus : (b == 45) ≡ false = grind (arith, nat_tests) in
    let front : whole_of (b ∷ digits ++ text) ≡ b ∷ digits = whole_front (b ∷ digits) text h ∙ ap (λ l. b ∷ digits ++ l) whole ∙ append-nil (b ∷ digits) in
    let behind : fraction_of (b ∷ digits ++ text) ≡ places = fraction_front (b ∷ digits) text h ∙ fraction in
    let both : digits_of (b ∷ digits ++ text) ≡ b ∷ digits ++ places = ap (λ l. l ++ fraction_of (b ∷ digits ++ text)) front ∙ ap (λ l. b ∷ digits ++ l) behind in
    let long : nat_lt 0 (length (b ∷ digits ++ places)) ≡ true = grind (arith, nat_tests) in
    let number : size ≡ number_of (b ∷ digits ++ places) * 10 ^ (6 - length places) =
    e ∙ raised (number_of (b ∷ digits)) (number_of places) (length places) few ∙ ap (λ n. n * 10 ^ (6 - length places)) (sym (number_of-append (b ∷ digits) places)) in
    record {
      some = ap is_some_digits both ∙ and_from _ _ long (list_all-append is_ascii_digit (b ∷ digits) places ∙ and_from _ _ h all);
      says = number ∙ sym (nearest_whole (number_of (b ∷ digits ++ places)) 6 (length places) few)
          ∙ ap (λ l. nearest (number_of l * 10 ^ 6) (10 ^ length places)) (sym both) ∙ ap (λ l. nearest (number_of (digits_of (b ∷ digits ++ text)) * 10 ^ 6) (10 ^ length l)) (sym behind);
      inside = list_all-append is_number_byte (b ∷ digits) text ∙ and_from _ _ (digits_inside (b ∷ digits) h) inside;
      unsigned = rw unsigned refl;
      positive = plus;
    }

pub some_taken : (text : List ℕ) (len : ℕ) → len ≢ 0 → len ≤ length text → 0 < length (take len text)
some_taken text zero differs within = absurd (differs refl)
some_taken [] (suc len) differs within = absurd (omega (arith, within))
some_taken (b ∷ text) (suc len) differs within = omega arith

pub taken : (text : List ℕ) (len : ℕ) → len ≤ length text → length (take len text) ≡ len
taken text zero within = refl
taken [] (suc len) within = absurd (omega (arith, within))
taken (b ∷ text) (suc len) within = ap suc (taken text len (omega (arith, within)))

pub whole_leads : (text : List ℕ) (len size number : ℕ) → 0 < length (take len text) → are_digits (take len text) ≡ true → number ≡ number_of (take len text) → size ≡ number * 1000000
    → LeadsWith text size (drop len text)
whole_leads text len size number some h n e =
    let digits = take len text in
    let is : size ≡ number_of digits * 1000000 + 0 * 10 ^ 6 = omega (arith, e, n) in
    (digits, sym (take-append-drop len text), subst (λ w. IsPlainSize w size) (append-nil digits) (plain_size digits [] [] size some h refl (omega arith) refl refl refl is))

pub places_lead : (text places : List ℕ) (len count size whole fraction : ℕ) → 0 < length (take len text) → are_digits (take len text) ≡ true → whole ≡ number_of (take len text)
    → drop len text ≡ 46 ∷ places → are_digits (take count places) ≡ true → fraction ≡ number_of (take count places) → length (take count places) ≤ 6
    → size ≡ whole * 1000000 + fraction * 10 ^ (6 - length (take count places)) → LeadsWith text size (drop count places)
places_lead text places len count size whole fraction some h w point all f few e =
    let digits = take len text in
    let front = take count places in
    let is : size ≡ number_of digits * 1000000 + number_of front * 10 ^ (6 - length front) = e ∙ ap (λ n. n * 1000000 + fraction * 10 ^ (6 - length front)) w ∙ ap (λ n. number_of digits * 1000000 + n * 10 ^ (6 - length front)) f in
    let parts : digits ++ 46 ∷ (front ++ drop count places) ≡ text = ap (λ l. digits ++ 46 ∷ l) (take-append-drop count places) ∙ ap (λ l. digits ++ l) (sym point) ∙ take-append-drop len text in (
      digits ++ 46 ∷ front,
      sym parts ∙ sym (append_assoc digits (46 ∷ front) (drop count places)),
      plain_size digits front (46 ∷ front) size some h all few refl refl (digits_inside front all) is,
    )

-- ---- they are words
inside_joined : (word rest : List ℕ) → list_all is_number_byte word ≡ true → joined (word ++ rest) ≡ word ++ joined rest
inside_joined [] rest h = refl
inside_joined (b ∷ word) rest h =
    let parts = and_parts (is_number_byte b) (list_all is_number_byte word) h in
    let plain : (b == 92) ≡ false = grind (arith, nat_tests) in
    rw plain (ap (λ l. b ∷ l) (inside_joined word rest parts.1))

inside_word : (word : List ℕ) → list_all is_number_byte word ≡ true → is_word word ≡ true
inside_word [] h = refl
inside_word (b ∷ word) h =
    let parts = and_parts (is_number_byte b) (list_all is_number_byte word) h in
    let inside : ends_word b ≡ false = grind (arith, nat_tests) in
    rw inside (inside_word word parts.1)

inside_begins : (word : List ℕ) → 0 < length word → list_all is_number_byte word ≡ true → begins_word word ≡ true
inside_begins [] some h = absurd (omega (arith, some))
inside_begins (b ∷ word) some h =
    let parts = and_parts (is_number_byte b) (list_all is_number_byte word) h in
    let plain : (b == 35) ≡ false = grind (arith, nat_tests) in
    rw plain refl

signed_value : (negative : Bool) (word : List ℕ) (size : ℕ) (x : ℤ) → IsPlainSize word size → in_range (signed negative size) ≡ Ok x → value_of (sign_text negative ++ word) ≡ Ok x
signed_value true word size x p e = sym (value_of_plain (45 ∷ word) size p.some p.says) ∙ e
signed_value false word size x p e =
    let is = p.unsigned in
    sym (value_of_plain word size (ap (λ l. is_some_digits (digits_of l)) is ∙ p.some) (p.says ∙ ap (λ l. nearest (number_of (digits_of l) * 10 ^ 6) (10 ^ length (fraction_of l))) (sym is)))
    ∙ ap (λ b. in_range (signed b size)) p.positive ∙ e

signed_inside : (negative : Bool) (word : List ℕ) → list_all is_number_byte word ≡ true → list_all is_number_byte (sign_text negative ++ word) ≡ true
signed_inside true word h = h
signed_inside false word h = h

-- a word that has digits has a byte
some_word : (word : List ℕ) → is_some_digits (digits_of word) ≡ true → 0 < length word
some_word [] h = cc
some_word (b ∷ word) h = omega arith

signed_some : (negative : Bool) (word : List ℕ) → 0 < length word → 0 < length (sign_text negative ++ word)
signed_some true word h = omega arith
signed_some false word h = h

pub decimal_here : (text word unsigned rest : List ℕ) (negative : Bool) (size : ℕ) (x : ℤ) → text ≡ 32 ∷ word → word ≡ sign_text negative ++ unsigned → LeadsWith unsigned size rest
    → is_apart (joined rest) ≡ true → in_range (signed negative size) ≡ Ok x → SaysDecimal text x rest
decimal_here text word unsigned rest negative size x first signs leads apart e =
    let (digits, whole, plain) = leads in
    let all = sign_text negative ++ digits in
    let inside = signed_inside negative digits plain.inside in
    let is : word ≡ all ++ rest = signs ∙ ap (λ l. sign_text negative ++ l) whole ∙ sym (append_assoc (sign_text negative) digits rest) in
    let words = word_here word all rest (ap joined is ∙ inside_joined all rest inside) (inside_word all inside) apart (inside_begins all (signed_some negative digits (some_word digits plain.some)) inside) in
    (all, ap (λ l. words_here l) first ∙ ap before_comment (blank_before 32 (joined word) refl) ∙ words, signed_value negative digits size x plain e)

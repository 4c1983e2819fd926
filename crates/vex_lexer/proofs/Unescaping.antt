-- The value of a string, character by character.
use Rattle.std.proofs.Common.{◌≡◌, ℕ, suc, ◌<◌, ◌≤◌, true, false, if◌then◌else◌, ◌==◌, List, [], ◌∷◌, ◌++◌, length, get_or, refl, ap, sym, ◌∙◌, arith, inl, inr}
use Rattle.std.proofs.lemmas.Bool.{cases_lt}
use Rattle.std.proofs.lemmas.Bool.Decides.{Decides-eqb, nat_tests}
use Rattle.std.proofs.lemmas.List.{append-nil}
use Rattle.std.proofs.lemmas.Str.{encode_ascii, inside_one, length-encode, len_utf8_bounds}
use lib.Utf8.{encode}
use Rattle.vex_lexer.specs.Escapes.{meant, unescaped}
use Rattle.vex_lexer.proofs.Longest.{unequal}

-- bytes above 127 stand for themselves
plain_run : (bytes rest : List ℕ) → ((k : ℕ) → k < length bytes → 128 ≤ get_or bytes k 0) → unescaped false (bytes ++ rest) ≡ bytes ++ unescaped false rest
plain_run [] rest high = refl
plain_run (b ∷ bytes) rest high =
    let above : 128 ≤ b = high 0 (omega arith) in
    let no : (b == 92) ≡ false = unequal b 92 (λ e. omega arith) in
    ap (λ x. if x then unescaped true (bytes ++ rest) else b ∷ unescaped false (bytes ++ rest)) no
    ∙ ap (λ t. b ∷ t) (plain_run bytes rest (λ k less. high (suc k) (omega arith)))

meant_above : (b : ℕ) → 128 ≤ b → meant b ≡ b
meant_above b above =
    let n : (b == 110) ≡ false = unequal b 110 (λ e. omega arith) in
    let t : (b == 116) ≡ false = unequal b 116 (λ e. omega arith) in
    rw (n, t) refl

meant_below : (b : ℕ) → b < 128 → meant b < 128
meant_below b below = grind (arith, nat_tests)

escaped_run : (bytes rest : List ℕ) → 0 < length bytes → ((k : ℕ) → k < length bytes → 128 ≤ get_or bytes k 0) → unescaped true (bytes ++ rest) ≡ bytes ++ unescaped false rest
escaped_run [] rest some high = absurd (omega arith)
escaped_run (b ∷ bytes) rest some high =
    let here = meant_above b (high 0 (omega arith)) in
    let more = plain_run bytes rest (λ k less. high (suc k) (omega arith)) in
    λ i. here i ∷ more i

high_bytes : (c : ℕ) → 128 ≤ c → (k : ℕ) → k < length (encode c) → 128 ≤ get_or (encode c) k 0
high_bytes c above k inside = elim (cases_lt (get_or (encode c) k 0) 128) [
  | inl less ↦ absurd (let e : c ≡ get_or (encode c) k 0 = inside_one c [] (encode c) k (sym (append-nil (encode c))) inside less in omega arith)
  | inr more ↦ more
]

some_bytes : (c : ℕ) → 0 < length (encode c)
some_bytes c = let a = length-encode c in let b = (len_utf8_bounds c).0 in omega arith

pub next_escaped : (c : ℕ) (rest : List ℕ) → unescaped true (encode c ++ rest) ≡ encode (meant c) ++ unescaped false rest
next_escaped c rest = elim (cases_lt c 128) [
  | inl below ↦ ap (λ t. unescaped true (t ++ rest)) (encode_ascii c below) ∙ ap (λ t. t ++ unescaped false rest) (sym (encode_ascii (meant c) (meant_below c below)))
  | inr above ↦ escaped_run (encode c) rest (some_bytes c) (high_bytes c above) ∙ ap (λ b. encode b ++ unescaped false rest) (sym (meant_above c above))
]

pub next_plain : (c : ℕ) (rest : List ℕ) → (c ≡ 92 → ⊥) → unescaped false (encode c ++ rest) ≡ encode c ++ unescaped false rest
next_plain c rest apart = elim (cases_lt c 128) [
  | inl below ↦ ap (λ t. unescaped false (t ++ rest)) (encode_ascii c below) ∙ ap (λ x. if x then unescaped true rest else c ∷ unescaped false rest) (unequal c 92 apart) ∙ ap (λ t. t ++ unescaped false rest) (sym (encode_ascii c below))
  | inr above ↦ plain_run (encode c) rest (high_bytes c above)
]

pub next_backslash : (c : ℕ) (rest : List ℕ) → (c == 92) ≡ true → unescaped false (encode c ++ rest) ≡ unescaped true rest
next_backslash c rest same =
    let below : c < 128 = (let e : c ≡ 92 = (Decides-eqb c 92).0 same in omega arith) in
    ap (λ t. unescaped false (t ++ rest)) (encode_ascii c below) ∙ ap (λ x. if x then unescaped true rest else c ∷ unescaped false rest) same

-- A test read a byte at a time.
use Rattle.std.proofs.Common.{◌≡◌, ℕ, zero, suc, ◌+◌, ◌≤◌, ◌<◌, List, [], ◌∷◌, length, take, refl, sym, subst, ◌∙◌, arith, Bool, true, false, ◌==◌}
use Rattle.std.proofs.lemmas.Bool.Decides.{Decides-eqb}
use Rattle.vex_lexer.specs.Longest.{IsLongest, onto}
use Rattle.vex_lexer.proofs.Longest.{longest_of, none_fits, not_both}

pub onto_more : (by len : ℕ) → onto by (onto 1 len) ≡ onto (by + 1) len
onto_more by zero = refl
onto_more by (suc len) = omega arith

pub onto_one : (by : ℕ) → onto by 1 ≡ by + 1
onto_one by = omega arith

none_behind : (f g : List ℕ → Bool) (b : ℕ) (text : List ℕ) → g [] ≡ false → ((word : List ℕ) → f (b ∷ word) ≡ g word) → IsLongest g text 0
    → (more : ℕ) → 0 < more → more ≤ length (b ∷ text) → f (take more (b ∷ text)) ≡ true → ⊥
none_behind f g b text empty_after same h zero some inside fit = absurd (omega arith)
none_behind f g b text empty_after same h (suc zero) some inside fit = not_both (g []) (sym (same []) ∙ fit) empty_after
none_behind f g b text empty_after same h (suc (suc more)) some inside fit =
    not_both (g (take (suc more) text)) (sym (same (take (suc more) text)) ∙ fit) (h.no_longer (suc more) (omega arith) (omega arith))

none_longer : (f g : List ℕ → Bool) (b : ℕ) (text : List ℕ) (len : ℕ) → ((word : List ℕ) → f (b ∷ word) ≡ g word) → IsLongest g text (suc len)
    → (more : ℕ) → suc (1 + len) < more → more ≤ length (b ∷ text) → f (take more (b ∷ text)) ≡ true → ⊥
none_longer f g b text len same h zero over inside fit = absurd (omega arith)
none_longer f g b text len same h (suc more) over inside fit =
    not_both (g (take more text)) (sym (same (take more text)) ∙ fit) (h.no_longer more (omega arith) (omega arith))

-- the test behind a first byte
pub step_longest : (f g : List ℕ → Bool) (b : ℕ) (text : List ℕ) (len : ℕ) → g [] ≡ false → ((word : List ℕ) → f (b ∷ word) ≡ g word) → IsLongest g text len → IsLongest f (b ∷ text) (onto 1 len)
step_longest f g b text zero empty_after same h = none_fits f (b ∷ text) (none_behind f g b text empty_after same h)
step_longest f g b text (suc len) empty_after same h =
    let e : suc len ≡ 1 + len = omega arith in
    let in_text = h.within in
    longest_of f (b ∷ text) (suc (1 + len)) (omega arith)
    (λ some. same (take (1 + len) text) ∙ subst (λ n. g (take n text) ≡ true) e (h.does_fit (omega arith)))
    (none_longer f g b text len same h)

pub stop_longest : (f : List ℕ → Bool) (b : ℕ) (text : List ℕ) → ((word : List ℕ) → f (b ∷ word) ≡ false) → IsLongest f (b ∷ text) 0
stop_longest f b text same = none_fits f (b ∷ text) go
  where
    go : (more : ℕ) → 0 < more → more ≤ length (b ∷ text) → f (take more (b ∷ text)) ≡ true → ⊥
    go zero some inside fit = absurd (omega arith)
    go (suc more) some inside fit = not_both _ fit (same (take more text))

pub last_longest : (f : List ℕ → Bool) (b : ℕ) (text : List ℕ) → ((word : List ℕ) → f (b ∷ word) ≡ (length word == 0)) → IsLongest f (b ∷ text) 1
last_longest f b text same = longest_of f (b ∷ text) 1 (omega arith) (λ some. same []) go
  where
    go : (more : ℕ) → 1 < more → more ≤ length (b ∷ text) → f (take more (b ∷ text)) ≡ true → ⊥
    go zero over inside fit = absurd (omega arith)
    go (suc zero) over inside fit = absurd (omega arith)
    go (suc (suc more)) over inside fit = last_of text more (omega arith) (sym (same (take (suc more) text)) ∙ fit)
      where
        last_of : (rest : List ℕ) (n : ℕ) → suc n ≤ length rest → (length (take (suc n) rest) == 0) ≡ true → ⊥
        last_of [] n inside fit = omega arith
        last_of (c ∷ rest) n inside fit = (let e : length (take (suc n) (c ∷ rest)) ≡ 0 = (Decides-eqb _ 0).0 fit in omega arith)

-- the test behind a first byte, where nothing behind it fits too
pub step_on : (f g : List ℕ → Bool) (b : ℕ) (text : List ℕ) (len : ℕ) → g [] ≡ true → ((word : List ℕ) → f (b ∷ word) ≡ g word) → IsLongest g text len → IsLongest f (b ∷ text) (suc len)
step_on f g b text len empty same h =
    let in_text = h.within in
    longest_of f (b ∷ text) (suc len) (omega arith) (λ some. same (take len text) ∙ fit_or_none len h.does_fit) longer
  where
    fit_or_none : (n : ℕ) → (0 < n → g (take n text) ≡ true) → g (take n text) ≡ true
    fit_or_none zero fit = empty
    fit_or_none (suc n) fit = fit (omega arith)

    longer : (more : ℕ) → suc len < more → more ≤ length (b ∷ text) → f (take more (b ∷ text)) ≡ true → ⊥
    longer zero over inside fit = absurd (omega arith)
    longer (suc more) over inside fit = not_both (g (take more text)) (sym (same (take more text)) ∙ fit) (h.no_longer more (omega arith) (omega arith))

-- two tests that say the same of each beginning from a length on
pub agree_longest : (f g : List ℕ → Bool) (text : List ℕ) (len : ℕ) → ((more : ℕ) → 0 < more → len ≤ more → more ≤ length text → f (take more text) ≡ g (take more text)) → IsLongest f text len → IsLongest g text len
agree_longest f g text len same h = record {
  within = h.within;
  does_fit = λ some. sym (same len some (omega arith) h.within) ∙ h.does_fit some;
  no_longer = λ more over inside. sym (same more (omega arith) (omega arith) inside) ∙ h.no_longer more over inside;
}

-- Where a string's closing quote and a comment's end stand: by a count, a byte at a time.
use Rattle.std.proofs.Common.{◌≡◌, ℕ, ◌+◌, ◌≤◌, ◌<◌, List, [], ◌∷◌, length, drop, refl, ap, ◌∙◌, arith, Bool, true, false, not, ◌&&◌, ◌==◌, if◌then◌else◌, get_or}
use Rattle.std.proofs.lemmas.List.{drop_more, drop_all}
use Rattle.vex_lexer.specs.Longest.{IsLongest, onto}
use Rattle.vex_lexer.specs.Words.{is_closed_by, is_escaped, is_line_end}
use Rattle.vex_lexer.specs.Gaps.{ends_comment}
use Rattle.vex_lexer.proofs.Longest.{none_fits}
use Rattle.vex_lexer.proofs.Steps.{onto_more, onto_one, step_longest, stop_longest, last_longest}

-- how many bytes close a string, or 0
abbrev pub closing : ℕ → Bool → List ℕ → ℕ
closing quote escape [] = 0
closing quote true (b ∷ text) = if is_escaped b then onto 1 (closing quote false text) else 0
closing quote false (b ∷ text) = if b == quote then 1 else if is_line_end b then 0 else onto 1 (closing quote (b == 92) text)

nothing_closed : (quote : ℕ) (escape : Bool) → is_closed_by quote escape [] ≡ false
nothing_closed quote true = refl
nothing_closed quote false = refl

pub closing_is : (quote : ℕ) (escape : Bool) (text : List ℕ) → IsLongest (is_closed_by quote escape) text (closing quote escape text)
closing_is quote true [] = none_fits _ [] (λ more some inside fit. omega arith)
closing_is quote false [] = none_fits _ [] (λ more some inside fit. omega arith)
closing_is quote true (b ∷ text) = elim (is_escaped b) as (λ x. is_escaped b ≡ x → IsLongest (is_closed_by quote true) (b ∷ text) (if x then onto 1 (closing quote false text) else 0)) [
  | true ↦ λ e. step_longest _ (is_closed_by quote false) b text _ refl (λ word. ap (λ x. x && is_closed_by quote false word) e) (closing_is quote false text)
  | false ↦ λ e. stop_longest _ b text (λ word. ap (λ x. x && is_closed_by quote false word) e)
] refl
closing_is quote false (b ∷ text) = elim (b == quote) as (λ x. (b == quote) ≡ x → IsLongest (is_closed_by quote false) (b ∷ text) (if x then 1 else if is_line_end b then 0 else onto 1 (closing quote (b == 92) text))) [
  | true ↦ λ e. last_longest _ b text (λ word. ap (λ x. if x then length word == 0 else not (is_line_end b) && is_closed_by quote (b == 92) word) e)
  | false ↦ λ e. elim (is_line_end b) as (λ x. is_line_end b ≡ x → IsLongest (is_closed_by quote false) (b ∷ text) (if x then 0 else onto 1 (closing quote (b == 92) text))) [
    | true ↦ λ end. stop_longest _ b text (λ word. ap (λ x. if x then length word == 0 else not (is_line_end b) && is_closed_by quote (b == 92) word) e ∙ ap (λ x. not x && is_closed_by quote (b == 92) word) end)
    | false ↦ λ end. step_longest _ (is_closed_by quote (b == 92)) b text _ (nothing_closed quote (b == 92))
        (λ word. ap (λ x. if x then length word == 0 else not (is_line_end b) && is_closed_by quote (b == 92) word) e ∙ ap (λ x. not x && is_closed_by quote (b == 92) word) end)
        (closing_is quote (b == 92) text)
  ] refl
] refl

-- how many bytes a comment has to its end, or 0
abbrev pub ending : Bool → List ℕ → ℕ
ending star [] = 0
ending star (b ∷ text) = if star && (b == 47) then 1 else onto 1 (ending (b == 42) text)

pub ending_is : (star : Bool) (text : List ℕ) → IsLongest (ends_comment star) text (ending star text)
ending_is star [] = none_fits _ [] (λ more some inside fit. omega arith)
ending_is star (b ∷ text) = elim (star && (b == 47)) as (λ x. (star && (b == 47)) ≡ x → IsLongest (ends_comment star) (b ∷ text) (if x then 1 else onto 1 (ending (b == 42) text))) [
  | true ↦ λ e. last_longest _ b text (λ word. ap (λ x. if x then length word == 0 else ends_comment (b == 42) word) e)
  | false ↦ λ e. step_longest _ (ends_comment (b == 42)) b text _ refl (λ word. ap (λ x. if x then length word == 0 else ends_comment (b == 42) word) e) (ending_is (b == 42) text)
] refl

-- the next byte of a comment

pub ending_step : (star : Bool) (text : List ℕ) (i : ℕ) → i < length text → (star && (get_or text i 0 == 47)) ≡ false
    → onto i (ending star (drop i text)) ≡ onto (i + 1) (ending (get_or text i 0 == 42) (drop (i + 1) text))
ending_step star text i inside e =
    ap (λ t. onto i (ending star t)) (drop_more text i 0 inside)
    ∙ ap (λ x. onto i (if x then 1 else onto 1 (ending (get_or text i 0 == 42) (drop (i + 1) text)))) e
    ∙ onto_more i (ending (get_or text i 0 == 42) (drop (i + 1) text))

pub ending_here : (star : Bool) (text : List ℕ) (i : ℕ) → i < length text → (star && (get_or text i 0 == 47)) ≡ true → onto i (ending star (drop i text)) ≡ i + 1
ending_here star text i inside e =
    ap (λ t. onto i (ending star t)) (drop_more text i 0 inside)
    ∙ ap (λ x. onto i (if x then 1 else onto 1 (ending (get_or text i 0 == 42) (drop (i + 1) text)))) e
    ∙ onto_one i

pub ending_past : (star : Bool) (text : List ℕ) (i : ℕ) → length text ≤ i → onto i (ending star (drop i text)) ≡ 0
ending_past star text i past = ap (λ t. onto i (ending star t)) (drop_all i text past)

-- the next byte of a string

pub closing_past : (quote : ℕ) (escape : Bool) (text : List ℕ) (i : ℕ) → length text ≤ i → onto i (closing quote escape (drop i text)) ≡ 0
closing_past quote true text i past = ap (λ t. onto i (closing quote true t)) (drop_all i text past)
closing_past quote false text i past = ap (λ t. onto i (closing quote false t)) (drop_all i text past)

pub closing_escape : (quote : ℕ) (text : List ℕ) (i : ℕ) → i < length text → is_escaped (get_or text i 0) ≡ true → onto i (closing quote true (drop i text)) ≡ onto (i + 1) (closing quote false (drop (i + 1) text))
closing_escape quote text i inside e =
    ap (λ t. onto i (closing quote true t)) (drop_more text i 0 inside)
    ∙ ap (λ x. onto i (if x then onto 1 (closing quote false (drop (i + 1) text)) else 0)) e
    ∙ onto_more i (closing quote false (drop (i + 1) text))

pub closing_wrong : (quote : ℕ) (text : List ℕ) (i : ℕ) → i < length text → is_escaped (get_or text i 0) ≡ false → onto i (closing quote true (drop i text)) ≡ 0
closing_wrong quote text i inside e =
    ap (λ t. onto i (closing quote true t)) (drop_more text i 0 inside)
    ∙ ap (λ x. onto i (if x then onto 1 (closing quote false (drop (i + 1) text)) else 0)) e

next_plain : (quote b : ℕ) (text : List ℕ) (quoted ended : Bool) → (b == quote) ≡ quoted → is_line_end b ≡ ended
    → closing quote false (b ∷ text) ≡ (if quoted then 1 else if ended then 0 else onto 1 (closing quote (b == 92) text))
next_plain quote b text quoted ended q e =
    ap (λ x. if x then 1 else if is_line_end b then 0 else onto 1 (closing quote (b == 92) text)) q
    ∙ ap (λ x. if quoted then 1 else if x then 0 else onto 1 (closing quote (b == 92) text)) e

pub closing_plain : (quote : ℕ) (text : List ℕ) (i : ℕ) → i < length text → (get_or text i 0 == quote) ≡ false → is_line_end (get_or text i 0) ≡ false
    → onto i (closing quote false (drop i text)) ≡ onto (i + 1) (closing quote (get_or text i 0 == 92) (drop (i + 1) text))
closing_plain quote text i inside q e =
    ap (λ t. onto i (closing quote false t)) (drop_more text i 0 inside)
    ∙ ap (onto i) (next_plain quote (get_or text i 0) (drop (i + 1) text) false false q e)
    ∙ onto_more i (closing quote (get_or text i 0 == 92) (drop (i + 1) text))

pub closing_broken : (quote : ℕ) (text : List ℕ) (i : ℕ) → i < length text → (get_or text i 0 == quote) ≡ false → is_line_end (get_or text i 0) ≡ true → onto i (closing quote false (drop i text)) ≡ 0
closing_broken quote text i inside q e =
    ap (λ t. onto i (closing quote false t)) (drop_more text i 0 inside)
    ∙ ap (onto i) (next_plain quote (get_or text i 0) (drop (i + 1) text) false true q e)

pub closing_here : (quote : ℕ) (text : List ℕ) (i : ℕ) → i < length text → (get_or text i 0 == quote) ≡ true → onto i (closing quote false (drop i text)) ≡ i + 1
closing_here quote text i inside q =
    ap (λ t. onto i (closing quote false t)) (drop_more text i 0 inside)
    ∙ ap (onto i) (next_plain quote (get_or text i 0) (drop (i + 1) text) true (is_line_end (get_or text i 0)) q refl)
    ∙ onto_one i

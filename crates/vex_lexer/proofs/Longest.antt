-- The longest beginning that fits: at most one length, of two tests, behind a mark, and of a table.
use Rattle.std.proofs.Common.{◌≡◌, ℕ, zero, suc, ◌+◌, ◌-◌, ◌≤◌, ◌<◌, max, List, [], ◌∷◌, length, take, drop, refl, ap, sym, subst, ◌∙◌, arith, Bool, true, false, ◌&&◌, ◌||◌, inl, inr, nat_eq, ◌==◌, nat_cmp, bytes_eq, length-drop, get_or, nat_lt}
use Rattle.std.proofs.lemmas.Bool.{cases_lt, and_from, and_parts}
use Rattle.std.proofs.lemmas.Bool.Decides.{Decides-eqb}
use Rattle.std.proofs.Math.Seq.{take-length}
use Rattle.std.proofs.lemmas.List.{drop-take, length-take-le, take_more}
use Rattle.std.proofs.lemmas.Slice.Eq.{bytes_eq-Decides}
use Rattle.std.proofs.lemmas.List.Folds.{list_any-append}
use Rattle.std.proofs.lemmas.Grind.{common_steps}
use Rattle.std.specs.Ordering.{ord_max}
use Rattle.std.specs.List.{list_any, starts_with}
use Rattle.vex_lexer.specs.Longest.{IsLongest, onto}

pub refuted : (b : Bool) → (b ≡ true → ⊥) → b ≡ false
refuted true h = absurd (h refl)
refuted false h = refl

pub unequal : (a b : ℕ) → (a ≡ b → ⊥) → (a == b) ≡ false
unequal a b apart = refuted (a == b) (λ h. apart ((Decides-eqb a b).0 h))

pub not_both : (b : Bool) → b ≡ true → b ≡ false → ⊥
not_both b fit unfit = cc

or_left : (x y : Bool) → x ≡ true → (x || y) ≡ true
or_left x y h = ap (λ b. b || y) h

or_right : (x y : Bool) → y ≡ true → (x || y) ≡ true
or_right true y h = refl
or_right false y h = h

or_none : (x y : Bool) → x ≡ false → y ≡ false → (x || y) ≡ false
or_none x y p q = ap (λ b. b || y) p ∙ q

-- by what the longer beginnings would say
pub longest_of : (fits : List ℕ → Bool) (text : List ℕ) (len : ℕ) → len ≤ length text → (0 < len → fits (take len text) ≡ true)
    → ((more : ℕ) → len < more → more ≤ length text → fits (take more text) ≡ true → ⊥) → IsLongest fits text len
longest_of fits text len in_text fit unfit = record {
  within = in_text;
  does_fit = fit;
  no_longer = λ more over inside. refuted (fits (take more text)) (unfit more over inside);
}

pub none_fits : (fits : List ℕ → Bool) (text : List ℕ) → ((more : ℕ) → 0 < more → more ≤ length text → fits (take more text) ≡ true → ⊥) → IsLongest fits text 0
none_fits fits text unfit = longest_of fits text 0 (omega arith) (λ some. absurd (omega arith)) unfit

-- what fits is at most as long
pub fits_within : (fits : List ℕ → Bool) (text : List ℕ) (len more : ℕ) → IsLongest fits text len → more ≤ length text → fits (take more text) ≡ true → more ≤ len
fits_within fits text len more h inside fit = elim (cases_lt len more) [
  | inl over ↦ absurd (not_both (fits (take more text)) fit (h.no_longer more over inside))
  | inr most ↦ most
]

no_more : (fits : List ℕ → Bool) (text : List ℕ) (a b : ℕ) → IsLongest fits text a → IsLongest fits text b → a ≤ b
no_more fits text a b p q = elim (cases_lt 0 a) [
  | inl some ↦ fits_within fits text b a q p.within (p.does_fit some)
  | inr none ↦ omega arith
]

pub one_longest : (fits : List ℕ → Bool) (text : List ℕ) (a b : ℕ) → IsLongest fits text a → IsLongest fits text b → a ≡ b
one_longest fits text a b p q = let le = no_more fits text a b p q in let ge = no_more fits text b a q p in omega arith

pub same_longest : (f g : List ℕ → Bool) (text : List ℕ) (len : ℕ) → ((word : List ℕ) → f word ≡ g word) → IsLongest f text len → IsLongest g text len
same_longest f g text len same h = record {
  within = h.within;
  does_fit = λ some. sym (same (take len text)) ∙ h.does_fit some;
  no_longer = λ more over inside. sym (same (take more text)) ∙ h.no_longer more over inside;
}

-- of two tests
pub either_longest : (f g : List ℕ → Bool) (text : List ℕ) (a b : ℕ) → IsLongest f text a → IsLongest g text b → IsLongest (λ word. f word || g word) text (max a b)
either_longest f g text a b p q =
    let in_a = p.within in
    let in_b = q.within in record {
      within = omega arith;
      does_fit = λ some. elim (cases_lt b a) [
        | inl more ↦ (let e : a ≡ max a b = omega arith in subst (λ n. (f (take n text) || g (take n text)) ≡ true) e (or_left _ _ (p.does_fit (omega arith))))
        | inr more ↦ (let e : b ≡ max a b = omega arith in subst (λ n. (f (take n text) || g (take n text)) ≡ true) e (or_right _ _ (q.does_fit (omega arith))))
      ];
      no_longer = λ more over inside. or_none _ _ (p.no_longer more (omega arith) inside) (q.no_longer more (omega arith) inside);
    }

-- what a mark before the test makes of it

pub starts_shorter : (mark text : List ℕ) (more : ℕ) → starts_with nat_eq (take more text) mark ≡ true → (length mark ≤ more) × (starts_with nat_eq text mark ≡ true)
starts_shorter [] text more h = (omega arith, refl)
starts_shorter (m ∷ mark) [] zero h = absurd (not_both false h refl)
starts_shorter (m ∷ mark) [] (suc more) h = absurd (not_both false h refl)
starts_shorter (m ∷ mark) (b ∷ text) zero h = absurd (not_both false h refl)
starts_shorter (m ∷ mark) (b ∷ text) (suc more) h =
    let rest = starts_shorter mark text more (and_parts _ _ h).1 in
    (omega (arith, rest.0), and_from _ _ (and_parts _ _ h).0 rest.1)

pub starts_longer : (mark text : List ℕ) (more : ℕ) → length mark ≤ more → starts_with nat_eq text mark ≡ true → starts_with nat_eq (take more text) mark ≡ true
starts_longer [] text more in_more h = refl
starts_longer (m ∷ mark) [] more in_more h = absurd (not_both false h refl)
starts_longer (m ∷ mark) (b ∷ text) zero in_more h = absurd (omega arith)
starts_longer (m ∷ mark) (b ∷ text) (suc more) in_more h = and_from _ _ (and_parts _ _ h).0 (starts_longer mark text more (omega arith) (and_parts _ _ h).1)

pub length_starts : (mark text : List ℕ) → starts_with nat_eq text mark ≡ true → length mark ≤ length text
length_starts [] text h = omega arith
length_starts (m ∷ mark) [] h = absurd (not_both false h refl)
length_starts (m ∷ mark) (b ∷ text) h = let rest = length_starts mark text (and_parts _ _ h).1 in omega arith

pub no_mark : (mark : List ℕ) (fits : List ℕ → Bool) (text : List ℕ) → starts_with nat_eq text mark ≡ false → IsLongest (λ word. starts_with nat_eq word mark && fits word) text 0
no_mark mark fits text absent = none_fits _ text (λ more some inside fit. not_both _ (starts_shorter mark text more (and_parts _ _ fit).0).1 absent)

behind : (fits : List ℕ → Bool) (text : List ℕ) (k len more : ℕ) → IsLongest fits (drop k text) len → k ≤ more → k + len < more → more ≤ length text → fits (drop k (take more text)) ≡ true → ⊥
behind fits text k len more h past over inside fit =
    let e : k + (more - k) ≡ more = omega arith in
    let cut : drop k (take more text) ≡ take (more - k) (drop k text) = subst (λ n. drop k (take n text) ≡ take (more - k) (drop k text)) e (drop-take k (more - k) text) in
    let size : length (drop k text) ≡ length text - k = length-drop k text in
    not_both (fits (take (more - k) (drop k text))) (ap fits (sym cut) ∙ fit) (h.no_longer (more - k) (omega arith) (omega arith))

mark_alone : (mark : List ℕ) (fits : List ℕ → Bool) (text : List ℕ) (len : ℕ) → fits [] ≡ false → IsLongest fits (drop (length mark) text) len → len ≡ 0
    → IsLongest (λ word. starts_with nat_eq word mark && fits (drop (length mark) word)) text 0
mark_alone mark fits text len empty h none = none_fits _ text (λ more some inside fit.
    let both = and_parts (starts_with nat_eq (take more text) mark) (fits (drop (length mark) (take more text))) fit in
    let past : length mark ≤ more = (starts_shorter mark text more both.0).0 in
    let apart : length mark < more → ⊥ = λ over. behind fits text (length mark) len more h past (omega arith) inside both.1 in
    let alone : more ≤ length mark → ⊥ = λ short.
    let e : length mark + 0 ≡ more = omega arith in
    let cut : drop (length mark) (take more text) ≡ [] = subst (λ n. drop (length mark) (take n text) ≡ []) e (drop-take (length mark) 0 text) in
    not_both (fits []) (ap fits (sym cut) ∙ both.1) empty in
    elim (cases_lt (length mark) more) [ inl over ↦ apart over | inr short ↦ alone short ])

mark_before : (mark : List ℕ) (fits : List ℕ → Bool) (text : List ℕ) (len : ℕ) → starts_with nat_eq text mark ≡ true → IsLongest fits (drop (length mark) text) len → 0 < len
    → IsLongest (λ word. starts_with nat_eq word mark && fits (drop (length mark) word)) text (length mark + len)
mark_before mark fits text len present h some =
    let size : length (drop (length mark) text) ≡ length text - length mark = length-drop (length mark) text in
    let first = length_starts mark text present in
    let in_rest = h.within in
    longest_of _ text (length mark + len) (omega arith)
    (λ any. and_from _ _ (starts_longer mark text (length mark + len) (omega arith) present) (ap fits (drop-take (length mark) len text) ∙ h.does_fit some))
    (λ more over inside fit. behind fits text (length mark) len more h (omega arith) over inside (and_parts _ _ fit).1)

pub mark_onto : (mark : List ℕ) (fits : List ℕ → Bool) (text : List ℕ) (len : ℕ) → starts_with nat_eq text mark ≡ true → fits [] ≡ false → IsLongest fits (drop (length mark) text) len
    → IsLongest (λ word. starts_with nat_eq word mark && fits (drop (length mark) word)) text (onto (length mark) len)
mark_onto mark fits text zero present empty h = mark_alone mark fits text 0 empty h refl
mark_onto mark fits text (suc len) present empty h =
    let e : length mark + suc len ≡ suc (length mark + len) = omega arith in
    subst (IsLongest (λ word. starts_with nat_eq word mark && fits (drop (length mark) word)) text) e (mark_before mark fits text (suc len) present h (omega arith))

pub max_is : (a b : ℕ) → ord_max nat_cmp a b ≡ max a b
max_is a b = grind (arith, common_steps)

-- one word alone
pub same_word : (word text : List ℕ) → starts_with nat_eq text word ≡ true → IsLongest (λ other. bytes_eq word other) text (length word)
same_word word text present =
    longest_of _ text (length word) (length_starts word text present) (λ some. present)
    (λ more over inside fit.
    let e : word ≡ take more text = (bytes_eq-Decides word (take more text)).0 fit in
    let size : length (take more text) ≡ more = length-take-le more text inside in
    omega (arith, ap length e))

pub other_word : (word text : List ℕ) → starts_with nat_eq text word ≡ false → IsLongest (λ other. bytes_eq word other) text 0
other_word word text absent =
    none_fits _ text (λ more some inside fit.
    let e : word ≡ take more text = (bytes_eq-Decides word (take more text)).0 fit in
    let size : length (take more text) ≡ more = length-take-le more text inside in
    let m : length word ≡ more = ap length e ∙ size in
    not_both (bytes_eq word (take (length word) text)) (subst (λ n. bytes_eq word (take n text) ≡ true) (sym m) fit) absent)

-- one more entry of a table

or_last : (b : Bool) → (b || false) ≡ b
or_last true = refl
or_last false = refl

pub one_more_entry : {E : Type 0} (test : E → List ℕ → Bool) (entries : List E) (i : ℕ) (d : E) (text : List ℕ) (a b : ℕ) → i < length entries
    → IsLongest (λ word. list_any (λ entry. test entry word) (take i entries)) text a
    → IsLongest (test (get_or entries i d)) text b
    → IsLongest (λ word. list_any (λ entry. test entry word) (take (i + 1) entries)) text (max a b)
one_more_entry test entries i d text a b inside p q =
    same_longest _ _ text (max a b)
    (λ word. ap (λ x. list_any (λ entry. test entry word) (take i entries) || x) (sym (or_last (test (get_or entries i d) word)))
    ∙ sym (list_any-append (λ entry. test entry word) (take i entries) (get_or entries i d ∷ []))
    ∙ ap (list_any (λ entry. test entry word)) (sym (take_more entries i d inside)))
    (either_longest (λ word. list_any (λ entry. test entry word) (take i entries)) (test (get_or entries i d)) text a b p q)

-- a word fits where its longest beginning that does is the whole word
pub whole_is : (fits : List ℕ → Bool) (word : List ℕ) (len : ℕ) → fits [] ≡ false → IsLongest fits word len → (nat_lt 0 len && (len == length word)) ≡ fits word
whole_is fits [] len empty h = let none : len ≡ 0 = (let a = h.within in omega arith) in ap (λ n. nat_lt 0 n && (n == 0)) none ∙ sym empty
whole_is fits (b ∷ text) len empty h = elim (cases_lt len (length (b ∷ text))) [
  | inl less ↦
      (let apart : (len == length (b ∷ text)) ≡ false = unequal len (length (b ∷ text)) (λ e. omega arith) in
      let unfit : fits (b ∷ text) ≡ false = ap fits (sym (take-length (b ∷ text))) ∙ h.no_longer (length (b ∷ text)) less (omega arith) in
      grind (arith, common_steps))
  | inr most ↦
      (let e : len ≡ length (b ∷ text) = (let a = h.within in omega arith) in
      let fit : fits (b ∷ text) ≡ true = ap fits (sym (take-length (b ∷ text)) ∙ ap (λ n. take n (b ∷ text)) (sym e)) ∙ h.does_fit (omega arith) in
      let some : nat_lt 0 len ≡ true = grind arith in
      let same : (len == length (b ∷ text)) ≡ true = (Decides-eqb len (length (b ∷ text))).1 e in
      and_from _ _ some same ∙ sym fit)
]

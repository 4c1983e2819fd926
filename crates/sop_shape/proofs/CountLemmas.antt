-- Flags that are counted, and the places of those that are set.
use Rattle.std.proofs.Common.{◌≡◌, ℕ, zero, suc, ◌+◌, ◌≤◌, Bool, false, cond, List, [], ◌∷◌, ◌++◌, length, map, get_or, refl, ap, sym, ◌∙◌, arith, inl, inr, length-append, append_assoc}
use Rattle.std.specs.List.{range_with_len}
use Rattle.std.proofs.lemmas.Bool.{cases_Bool, cases_lt}
use Rattle.std.proofs.lemmas.List.{get_or_at, get_or_append_left, get_or_push, length_push}
use Rattle.std.proofs.lemmas.List.FromFn.{length-range_with_len}
use Rattle.sop_model.specs.Rows.{picked}
use Rattle.sop_model.specs.Sweep.{is_marked, kept, how_many}
use Rattle.sop_rows.proofs.KeptLemmas.{kept-yes, kept-no, kept-append}
use Rattle.sop_shape.specs.Tests.{number_at}
use Rattle.sop_shape.proofs.SortLemmas.{range_more}

-- COUNTS

pub how_many_few : (test : ℕ → Bool) (n : ℕ) → how_many test n ≤ n
how_many_few test zero = omega arith
how_many_few test (suc n) =
    let rest = how_many_few test n in
    elim (cases_Bool (test n)) [
      | inl passes ↦ let e : how_many test (suc n) ≡ how_many test n + 1 = ap (λ (b : Bool). how_many test n + cond b 1 0) passes in omega arith
      | inr fails ↦ let e : how_many test (suc n) ≡ how_many test n + 0 = ap (λ (b : Bool). how_many test n + cond b 1 0) fails in omega arith
    ]

-- the counts up to a place
pub record AreCountsTo (flags : List Bool) (k : ℕ) (counts : List ℕ) : Type 0 where
  pub long : length counts ≡ k + 1
  pub each : (i : ℕ) → i ≤ k → number_at counts i ≡ how_many (is_marked flags) i

pub count_next : (flags : List Bool) (k count more : ℕ) → more ≡ cond (get_or flags k false) 1 0 → count ≡ how_many (is_marked flags) k → count + more ≡ how_many (is_marked flags) (k + 1)
count_next flags k count more more_is count_is =
    let place : suc k ≡ k + 1 = omega arith in
    (λ j. count_is j + more_is j) ∙ ap (how_many (is_marked flags)) place

pub counts_more : (flags : List Bool) (k next : ℕ) (counts new : List ℕ) → next ≡ how_many (is_marked flags) (k + 1) → new ≡ counts ++ next ∷ [] → AreCountsTo flags k counts → AreCountsTo flags (k + 1) new
counts_more flags k next counts new next_is new_is are = record {
  long = ap length new_is ∙ length_push counts next ∙ ap (λ n. n + 1) are.long;
  each = λ i le. ap (λ ns. get_or ns i 0) new_is ∙ each_more i le;
}
  where
    each_more : (i : ℕ) → i ≤ k + 1 → get_or (counts ++ next ∷ []) i 0 ≡ how_many (is_marked flags) i
    each_more i le = elim (cases_lt i (k + 1)) [
      | inl before ↦ get_or_append_left counts (next ∷ []) 0 i (omega (arith, are.long)) ∙ are.each i (omega arith)
      | inr last ↦ let same : i ≡ k + 1 = omega arith in get_or_push counts next 0 i (are.long ∙ sym same) ∙ next_is ∙ ap (how_many (is_marked flags)) (sym same)
    ]

-- THE PLACES OF FLAGS

kept_one : (test : ℕ → Bool) (n k : ℕ) → n ≡ k → kept test n (k ∷ []) ≡ cond (test k) (k ∷ []) []
kept_one test n k same = ap (λ m. kept test m (k ∷ [])) same

pub places_more : (test : ℕ → Bool) (k : ℕ) (on : Bool) (places new : List ℕ) → on ≡ test k → places ≡ kept test 0 (range_with_len 0 k) → new ≡ places ++ cond on (k ∷ []) [] → new ≡ kept test 0 (range_with_len 0 (k + 1))
places_more test k on places new on_is places_are new_is =
    let place : suc k ≡ k + 1 = omega arith in
    let zero_more : 0 + k ≡ k = omega arith in
    let start : 0 + length (range_with_len 0 k) ≡ k = omega (arith, length-range_with_len 0 k) in
    new_is ∙ ap (λ xs. xs ++ cond on (k ∷ []) []) places_are ∙ ap (λ (b : Bool). kept test 0 (range_with_len 0 k) ++ cond b (k ∷ []) []) on_is
    ∙ ap (λ xs. kept test 0 (range_with_len 0 k) ++ xs) (sym (kept_one test (0 + length (range_with_len 0 k)) k start)) ∙ sym (kept-append test 0 (range_with_len 0 k) (k ∷ []))
    ∙ ap (kept test 0) (ap (λ m. range_with_len 0 k ++ m ∷ []) (sym zero_more) ∙ sym (range_more 0 k) ∙ ap (range_with_len 0) place)

-- what is kept stands in the places that are kept
module _ {X : Type 0} (test : ℕ → Bool) (d : X) where
  kept_behind : (pre xs : List X) → kept test (length pre) xs ≡ map (λ i. get_or (pre ++ xs) i d) (kept test (length pre) (range_with_len (length pre) (length xs)))
  kept_behind pre [] = refl
  kept_behind pre (x ∷ xs) =
      let n = length pre in
      let whole = pre ++ x ∷ xs in
      let same : (pre ++ x ∷ []) ++ xs ≡ whole = append_assoc pre (x ∷ []) xs in
      let long : length (pre ++ x ∷ []) ≡ n + 1 = length-append pre (x ∷ []) in
      let next : n + 1 ≡ suc n = omega arith in
      let left = kept test (suc n) (range_with_len (n + 1) (length xs)) in
      let rest : kept test (suc n) xs ≡ map (λ i. get_or whole i d) left = ap (λ k. kept test k xs) (sym (long ∙ next)) ∙ kept_behind (pre ++ x ∷ []) xs
      ∙ ap (λ ys. map (λ i. get_or ys i d) (kept test (length (pre ++ x ∷ [])) (range_with_len (length (pre ++ x ∷ [])) (length xs)))) same
      ∙ ap (λ k. map (λ i. get_or whole i d) (kept test k (range_with_len (length (pre ++ x ∷ [])) (length xs)))) (long ∙ next)
      ∙ ap (λ k. map (λ i. get_or whole i d) (kept test (suc n) (range_with_len k (length xs)))) long in
      let here = sym (get_or_at pre x xs d n refl) in
      elim (cases_Bool (test n)) [
        | inl stays ↦ kept-yes test n x xs stays ∙ (λ j. here j ∷ rest j) ∙ sym (ap (map (λ i. get_or whole i d)) (kept-yes test n n (range_with_len (n + 1) (length xs)) stays))
        | inr goes ↦ kept-no test n x xs goes ∙ rest ∙ sym (ap (map (λ i. get_or whole i d)) (kept-no test n n (range_with_len (n + 1) (length xs)) goes))
      ]

  pub kept_picked : (xs : List X) → kept test 0 xs ≡ picked xs d (kept test 0 (range_with_len 0 (length xs)))
  kept_picked xs = kept_behind [] xs

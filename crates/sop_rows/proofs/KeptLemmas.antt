-- Items that are kept by their numbers, how many they are, and whether some number passes.
use Rattle.std.proofs.Common.{◌≡◌, ℕ, zero, suc, ◌+◌, ◌<◌, ◌≤◌, Bool, true, false, cond, ◌||◌, List, [], ◌∷◌, ◌++◌, length, map, get_or, refl, ap, sym, ◌∙◌, subst, arith, inl, inr}
use Rattle.std.specs.Prelude.{All}
use Rattle.std.proofs.lemmas.Bool.{cases_Bool, cases_lt, or_left, or_right, or_parts, false≢true}
use Rattle.std.proofs.lemmas.List.Elements.{All-nil, All-cons}
use Rattle.sop_model.specs.Sweep.{some_from, kept, how_many}

module _ (test : ℕ → Bool) where
  module _ {X : Type 0} where
    pub kept-yes : (n : ℕ) (x : X) (xs : List X) → test n ≡ true → kept test n (x ∷ xs) ≡ x ∷ kept test (suc n) xs
    kept-yes n x xs e = ap (λ (b : Bool). cond b (x ∷ kept test (suc n) xs) (kept test (suc n) xs)) e

    pub kept-no : (n : ℕ) (x : X) (xs : List X) → test n ≡ false → kept test n (x ∷ xs) ≡ kept test (suc n) xs
    kept-no n x xs e = ap (λ (b : Bool). cond b (x ∷ kept test (suc n) xs) (kept test (suc n) xs)) e

    pub kept-append : (n : ℕ) (xs ys : List X) → kept test n (xs ++ ys) ≡ kept test n xs ++ kept test (n + length xs) ys
    kept-append n [] ys = ap (λ k. kept test k ys) (omega arith)
    kept-append n (x ∷ xs) ys =
        let place : suc n + length xs ≡ n + suc (length xs) = omega arith in
        let rest = kept-append (suc n) xs ys ∙ ap (λ k. kept test (suc n) xs ++ kept test k ys) place in
        elim (cases_Bool (test n)) [
          | inl stays ↦ kept-yes n x (xs ++ ys) stays ∙ ap (λ r. x ∷ r) rest ∙ sym (ap (λ r. r ++ kept test (n + suc (length xs)) ys) (kept-yes n x xs stays))
          | inr goes ↦ kept-no n x (xs ++ ys) goes ∙ rest ∙ sym (ap (λ r. r ++ kept test (n + suc (length xs)) ys) (kept-no n x xs goes))
        ]

    -- what holds of each item whose number passes
    pub All-kept : (P : X → Type 0) (n : ℕ) (xs : List X) → ((i : ℕ) (d : X) → i < length xs → test (n + i) ≡ true → P (get_or xs i d)) → All P (kept test n xs)
    All-kept P n [] each = All-nil P
    All-kept P n (x ∷ xs) each =
        let rest = All-kept P (suc n) xs (λ i d lt stays. let place : suc n + i ≡ n + suc i = omega arith in each (suc i) d (omega arith) (sym (ap test place) ∙ stays)) in
        elim (cases_Bool (test n)) [
          | inl stays ↦ subst (All P) (sym (kept-yes n x xs stays)) (All-cons P x (kept test (suc n) xs) (let place : n + 0 ≡ n = omega arith in each 0 x (omega arith) (ap test place ∙ stays)) rest)
          | inr goes ↦ subst (All P) (sym (kept-no n x xs goes)) rest
        ]

    pub kept_all : (n : ℕ) (xs : List X) → ((i : ℕ) → n ≤ i → i < n + length xs → test i ≡ true) → kept test n xs ≡ xs
    kept_all n [] each = refl
    kept_all n (x ∷ xs) each = kept-yes n x xs (each n (omega arith) (omega arith)) ∙ ap (λ r. x ∷ r) (kept_all (suc n) xs (λ i le lt. each i (omega arith) (omega arith)))

    pub kept_none : (n : ℕ) (xs : List X) → some_from test n (length xs) ≡ false → kept test n xs ≡ []
    kept_none n [] none = refl
    kept_none n (x ∷ xs) none =
        let both = or_parts (test n) (some_from test (suc n) (length xs)) none in
        kept-no n x xs both.0 ∙ kept_none (suc n) xs both.1

    pub kept_some : (n : ℕ) (xs : List X) → some_from test n (length xs) ≡ true → 0 < length (kept test n xs)
    kept_some n [] some = absurd (false≢true some)
    kept_some n (x ∷ xs) some = elim (cases_Bool (test n)) [
      | inl stays ↦ let long = ap length (kept-yes n x xs stays) in omega arith
      | inr goes ↦
          let left : some_from test (suc n) (length xs) ≡ true = ap (λ (b : Bool). b || some_from test (suc n) (length xs)) (sym goes) ∙ some in
          let rest = kept_some (suc n) xs left in
          let same = ap length (kept-no n x xs goes) in
          omega arith
    ]

    pub length-kept-le : (n : ℕ) (xs : List X) → length (kept test n xs) ≤ length xs
    length-kept-le n [] = omega arith
    length-kept-le n (x ∷ xs) =
        let rest = length-kept-le (suc n) xs in
        elim (cases_Bool (test n)) [
          | inl stays ↦ let long = ap length (kept-yes n x xs stays) in omega arith
          | inr goes ↦ let same = ap length (kept-no n x xs goes) in omega arith
        ]

  pub map-kept : {X Y : Type 0} (f : X → Y) (n : ℕ) (xs : List X) → map f (kept test n xs) ≡ kept test n (map f xs)
  map-kept f n [] = refl
  map-kept f n (x ∷ xs) =
      let rest = map-kept f (suc n) xs in
      elim (cases_Bool (test n)) [
        | inl stays ↦ ap (map f) (kept-yes n x xs stays) ∙ ap (λ r. f x ∷ r) rest ∙ sym (kept-yes n (f x) (map f xs) stays)
        | inr goes ↦ ap (map f) (kept-no n x xs goes) ∙ rest ∙ sym (kept-no n (f x) (map f xs) goes)
      ]

  -- HOW MANY PASS

  how_many-yes : (n : ℕ) → test n ≡ true → how_many test (suc n) ≡ how_many test n + 1
  how_many-yes n e = ap (λ (b : Bool). how_many test n + cond b 1 0) e

  how_many-no : (n : ℕ) → test n ≡ false → how_many test (suc n) ≡ how_many test n
  how_many-no n e = ap (λ (b : Bool). how_many test n + cond b 1 0) e ∙ omega arith

  pub how_many-step : (n : ℕ) → how_many test n ≤ how_many test (suc n)
  how_many-step n = elim (cases_Bool (test n)) [
    | inl passes ↦ let e = how_many-yes n passes in omega arith
    | inr fails ↦ let e = how_many-no n fails in omega arith
  ]

  pub how_many-le : (i n : ℕ) → i ≤ n → how_many test i ≤ how_many test n
  how_many-le i zero le = let z : i ≡ zero = omega arith in subst (λ (k : ℕ). how_many test k ≤ 0) (sym z) (omega arith)
  how_many-le i (suc n) le = elim (cases_lt i (suc n)) [
    | inl lt ↦ let rest = how_many-le i n (omega arith) in let step = how_many-step n in omega arith
    | inr ge ↦ let same : i ≡ suc n = omega arith in subst (λ (k : ℕ). how_many test k ≤ how_many test (suc n)) (sym same) (omega arith)
  ]

  -- one that passes has a new number below that of the end
  pub how_many-lt : (i n : ℕ) → i < n → test i ≡ true → how_many test i < how_many test n
  how_many-lt i n lt passes = let more = how_many-yes i passes in let le = how_many-le (suc i) n (omega arith) in omega arith

  pub how_many_all : ((i : ℕ) → test i ≡ true) → (n : ℕ) → how_many test n ≡ n
  how_many_all each zero = refl
  how_many_all each (suc n) = let more = how_many-yes n (each n) in let rest = how_many_all each n in omega arith

  length_more : {X : Type 0} (n : ℕ) (xs : List X) → how_many test n + length (kept test n xs) ≡ how_many test (n + length xs)
  length_more n [] = let place : n ≡ n + 0 = omega arith in let e = ap (how_many test) place in omega arith
  length_more n (x ∷ xs) =
      let rest = length_more (suc n) xs in
      let place : suc n + length xs ≡ n + suc (length xs) = omega arith in
      let same = ap (how_many test) place in
      elim (cases_Bool (test n)) [
        | inl stays ↦ let long = ap length (kept-yes n x xs stays) in let more = how_many-yes n stays in omega arith
        | inr goes ↦ let short = ap length (kept-no n x xs goes) in let same_many = how_many-no n goes in omega arith
      ]

  -- as many items are kept as numbers pass
  pub length-kept : {X : Type 0} (xs : List X) → length (kept test 0 xs) ≡ how_many test (length xs)
  length-kept xs =
      let more = length_more 0 xs in
      let place : 0 + length xs ≡ length xs = omega arith in
      let same = ap (how_many test) place in
      omega arith

  -- SOME NUMBER PASSES

  pub some_here : (n k i : ℕ) → n ≤ i → i < n + k → test i ≡ true → some_from test n k ≡ true
  some_here n zero i le lt passes = absurd (omega arith)
  some_here n (suc k) i le lt passes = elim (cases_lt n i) [
    | inl later ↦ or_right (test n) (some_from test (suc n) k) (some_here (suc n) k i (omega arith) (omega arith) passes)
    | inr here ↦ let same : n ≡ i = omega arith in or_left (test n) (some_from test (suc n) k) (ap test same ∙ passes)
  ]

  pub none_passes : (n k : ℕ) → ((i : ℕ) → n ≤ i → i < n + k → test i ≡ false) → some_from test n k ≡ false
  none_passes n zero each = refl
  none_passes n (suc k) each =
      ap (λ (b : Bool). b || some_from test (suc n) k) (each n (omega arith) (omega arith)) ∙ none_passes (suc n) k (λ i le lt. each i (omega arith) (omega arith))

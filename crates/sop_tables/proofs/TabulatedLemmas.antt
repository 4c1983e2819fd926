-- Lists of f at each number: what changes of f are for them.
use Rattle.std.proofs.Common.{◌≡◌, ◌≢◌, ℕ, zero, suc, ◌+◌, ◌<◌, List, [], ◌∷◌, ◌++◌, length, map, get_or, replicate, refl, ap, ◌∙◌, arith}
use Rattle.sop_tables.specs.Transposed.{tabulated}
use Rattle.sop_model.specs.Rows.{changed_at}

module _ {X : Type 0} where
  pub length-tabulated : (n : ℕ) (f : ℕ → X) → length (tabulated n f) ≡ n
  length-tabulated zero f = refl
  length-tabulated (suc n) f = ap suc (length-tabulated n (λ i. f (suc i)))

  -- equal where f and g are
  pub tabulated_same : (n : ℕ) (f g : ℕ → X) → ((i : ℕ) → i < n → f i ≡ g i) → tabulated n f ≡ tabulated n g
  tabulated_same zero f g h = refl
  tabulated_same (suc n) f g h =
      let here = h 0 (omega arith) in
      let rest = tabulated_same n (λ i. f (suc i)) (λ i. g (suc i)) (λ i l. h (suc i) (omega arith)) in
      λ j. here j ∷ rest j

  -- changed at one number
  pub tabulated_changed : (step : X → X) (n k : ℕ) (f g : ℕ → X) → (k < n → g k ≡ step (f k)) → ((i : ℕ) → i ≢ k → g i ≡ f i) → tabulated n g ≡ changed_at step (tabulated n f) k
  tabulated_changed step zero k f g here others = refl
  tabulated_changed step (suc n) zero f g here others =
      let first = here (omega arith) in
      let rest = tabulated_same n (λ i. g (suc i)) (λ i. f (suc i)) (λ i l. others (suc i) (λ e. omega arith)) in
      λ j. first j ∷ rest j
  tabulated_changed step (suc n) (suc k) f g here others =
      let first = others 0 (λ e. omega arith) in
      let rest = tabulated_changed step n k (λ i. f (suc i)) (λ i. g (suc i)) (λ l. here (omega arith)) (λ i d. others (suc i) (λ e. d (omega arith))) in
      λ j. first j ∷ rest j

  -- changed everywhere
  pub tabulated_map : {Y : Type 0} (step : X → Y) (n : ℕ) (f : ℕ → X) (g : ℕ → Y) → ((i : ℕ) → i < n → g i ≡ step (f i)) → tabulated n g ≡ map step (tabulated n f)
  tabulated_map step zero f g h = refl
  tabulated_map step (suc n) f g h =
      let first = h 0 (omega arith) in
      let rest = tabulated_map step n (λ i. f (suc i)) (λ i. g (suc i)) (λ i l. h (suc i) (omega arith)) in
      λ j. first j ∷ rest j

  -- more numbers at the end
  pub tabulated-append : (n m k : ℕ) (f : ℕ → X) → k ≡ n + m → tabulated k f ≡ tabulated n f ++ tabulated m (λ i. f (n + i))
  tabulated-append zero m k f e = let z : k ≡ m = omega arith in ap (λ (j : ℕ). tabulated j f) z ∙ tabulated_same m f (λ i. f (zero + i)) (λ i l. let y : i ≡ zero + i = omega arith in ap f y)
  tabulated-append (suc n) m zero f e = absurd (omega arith)
  tabulated-append (suc n) m (suc k) f e =
      let rest = tabulated-append n m k (λ i. f (suc i)) (omega arith) in
      let same = tabulated_same m (λ i. f (suc (n + i))) (λ i. f (suc n + i)) (λ i l. let y : suc (n + i) ≡ suc n + i = omega arith in ap f y) in
      ap (λ r. f 0 ∷ r) (rest ∙ ap (λ r. tabulated n (λ i. f (suc i)) ++ r) same)

  -- f at a number
  pub get_or-tabulated : (n i : ℕ) (f : ℕ → X) (d : X) → i < n → get_or (tabulated n f) i d ≡ f i
  get_or-tabulated zero i f d l = absurd (omega arith)
  get_or-tabulated (suc n) zero f d l = refl
  get_or-tabulated (suc n) (suc i) f d l = get_or-tabulated n i (λ k. f (suc k)) d (omega arith)

  -- one value everywhere
  pub tabulated_replicate : (n : ℕ) (f : ℕ → X) (x : X) → ((i : ℕ) → i < n → f i ≡ x) → tabulated n f ≡ replicate n x
  tabulated_replicate zero f x h = refl
  tabulated_replicate (suc n) f x h =
      let first = h 0 (omega arith) in
      let rest = tabulated_replicate n (λ i. f (suc i)) x (λ i l. h (suc i) (omega arith)) in
      λ j. first j ∷ rest j

  -- a list read number by number
  pub tabulated_list : (f : ℕ → X) (numbers : List ℕ) (g : ℕ → X) (d : ℕ) → ((j : ℕ) → j < length numbers → g j ≡ f (get_or numbers j d)) → tabulated (length numbers) g ≡ map f numbers
  tabulated_list f [] g d h = refl
  tabulated_list f (i ∷ numbers) g d h =
      let first = h 0 (omega arith) in
      let rest = tabulated_list f numbers (λ j. g (suc j)) d (λ j l. h (suc j) (omega arith)) in
      λ j. first j ∷ rest j

-- Elements of lists of numbers, by recursion and by place.
use Rattle.std.proofs.Common.{◌≡◌, ◌∙◌, ap, subst, refl, ℕ, zero, suc, ◌<◌, ◌⊎◌, inl, inr, List, [], ◌∷◌, ◌++◌, Bool, true, false, ◌||◌, cond, IsTrue, arith}
use Rattle.std.specs.Prelude.{Contains, filter}
use Rattle.std.specs.List.{list_any}
use Rattle.sop_net.specs.Order.{In}

pub contains-in : (xs : List ℕ) (y : ℕ) → Contains xs y → In xs y
contains-in [] y (k, h, e) = absurd (let none : k < 0 = h in omega arith)
contains-in (x ∷ xs) y (zero, h, e) = inl e
contains-in (x ∷ xs) y (suc k, h, e) = inr (contains-in xs y (k, omega arith, e))

pub in-contains : (xs : List ℕ) (y : ℕ) → In xs y → Contains xs y
in-contains [] y i = absurd i
in-contains (x ∷ xs) y (inl e) = (0, omega arith, e)
in-contains (x ∷ xs) y (inr i) = let c : Contains xs y = in-contains xs y i in (suc c.0, (let h = c.1 in omega arith), c.2)

pub in-front : (xs ys : List ℕ) (y : ℕ) → In xs y → In (xs ++ ys) y
in-front [] ys y i = absurd i
in-front (x ∷ xs) ys y (inl e) = inl e
in-front (x ∷ xs) ys y (inr i) = inr (in-front xs ys y i)

pub in-behind : (xs ys : List ℕ) (y : ℕ) → In ys y → In (xs ++ ys) y
in-behind [] ys y i = i
in-behind (x ∷ xs) ys y i = inr (in-behind xs ys y i)

pub in-split : (xs ys : List ℕ) (y : ℕ) → In (xs ++ ys) y → In xs y ⊎ In ys y
in-split [] ys y i = inr i
in-split (x ∷ xs) ys y (inl e) = inl (inl e)
in-split (x ∷ xs) ys y (inr i) = elim (in-split xs ys y i) [ inl j ↦ inl (inr j) | inr j ↦ inr j ]

pub in-filter : (p : ℕ → Bool) (xs : List ℕ) (y : ℕ) → In xs y → IsTrue (p y) → In (filter p xs) y
in-filter p [] y i h = absurd i
in-filter p (x ∷ xs) y (inl e) h = let t : p x ≡ true = rw e h in rw t (inl e)
in-filter p (x ∷ xs) y (inr i) h = elim (p x) as (λ b. In (cond b (x ∷ filter p xs) (filter p xs)) y) [ true ↦ inr (in-filter p xs y i h) | false ↦ in-filter p xs y i h ]

pub filter-in : (p : ℕ → Bool) (xs : List ℕ) (y : ℕ) → In (filter p xs) y → In xs y × IsTrue (p y)
filter-in p [] y i = absurd i
filter-in p (x ∷ xs) y i =
    (elim (p x) as (λ b. p x ≡ b → In (cond b (x ∷ filter p xs) (filter p xs)) y → In (x ∷ xs) y × IsTrue (p y)) [
      | true ↦ λ h j. elim j [ inl e ↦ (inl e, subst (λ v. IsTrue (p v)) e h) | inr k ↦ (let r : In xs y × IsTrue (p y) = filter-in p xs y k in (inr r.0, r.1)) ]
      | false ↦ λ h j. (let r : In xs y × IsTrue (p y) = filter-in p xs y j in (inr r.0, r.1))
    ]) refl i

pub any-in : (p : ℕ → Bool) (xs : List ℕ) (m : ℕ) → In xs m → IsTrue (p m) → IsTrue (list_any p xs)
any-in p [] m i h = absurd i
any-in p (x ∷ xs) m (inl e) h = rw (e, h) refl
any-in p (x ∷ xs) m (inr i) h = elim (p x) as (λ b. (b || list_any p xs) ≡ true) [ true ↦ refl | false ↦ any-in p xs m i h ]

pub any-out : (p : ℕ → Bool) (xs : List ℕ) → IsTrue (list_any p xs) → (m : ℕ) × (In xs m × IsTrue (p m))
any-out p [] h = absurd (cc)
any-out p (x ∷ xs) h =
    (elim (p x) as (λ b. p x ≡ b → (b || list_any p xs) ≡ true → (m : ℕ) × (In (x ∷ xs) m × IsTrue (p m))) [
      | true ↦ λ e g. (x, (inl refl, e))
      | false ↦ λ e g. let (m, (i, t)) : (m : ℕ) × (In xs m × IsTrue (p m)) = any-out p xs g in (m, (inr i, t))
    ]) refl h

-- tests that agree on the elements find alike
pub any-same : (p q : ℕ → Bool) (xs : List ℕ) → ((m : ℕ) → In xs m → p m ≡ q m) → list_any p xs ≡ list_any q xs
any-same p q [] h = refl
any-same p q (x ∷ xs) h = ap (λ b. b || list_any p xs) (h x (inl refl)) ∙ ap (λ b. q x || b) (any-same p q xs (λ m i. h m (inr i)))

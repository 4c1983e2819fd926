-- Sums over lists.
use Rattle.std.proofs.Common.{◌≡◌, ℕ, ◌+◌, Bool, true, false, List, [], ◌∷◌, map, refl, sym, cond, arith, zero-add}
use Rattle.std.specs.Prelude.{sum_by, filter, All}
use Rattle.std.specs.List.{flat_map}
use Rattle.std.proofs.lemmas.List.Sums.{sum_by-cons, sum_by-append}
use Rattle.std.proofs.lemmas.List.Elements.{All-head, All-tail}
use Rattle.sop_nearest.specs.Cells.{share}

-- functions that agree where P holds have the same sum over a list where it does
pub sum_by-alike : {X : Type 0} (f g : X → ℕ) (P : X → Type 0) → ((x : X) → P x → f x ≡ g x) → (xs : List X) → All P xs → sum_by f xs ≡ sum_by g xs
sum_by-alike f g P same [] all = refl
sum_by-alike f g P same (x ∷ xs) all =
    omega (arith, sum_by-cons f x xs, sum_by-cons g x xs, same x (All-head P x xs all), sum_by-alike f g P same xs (All-tail P x xs all))

pub sum_by-both : {X : Type 0} (f g h : X → ℕ) → ((x : X) → f x + g x ≡ h x) → (xs : List X) → sum_by f xs + sum_by g xs ≡ sum_by h xs
sum_by-both f g h both [] = refl
sum_by-both f g h both (x ∷ xs) =
    omega (arith, sum_by-cons f x xs, sum_by-cons g x xs, sum_by-cons h x xs, both x, sum_by-both f g h both xs)

pub sum_by-none : {X : Type 0} (f : X → ℕ) → ((x : X) → f x ≡ 0) → (xs : List X) → sum_by f xs ≡ 0
sum_by-none f none [] = refl
sum_by-none f none (x ∷ xs) = omega (arith, sum_by-cons f x xs, none x, sum_by-none f none xs)

pub sum_by-map : {X Y : Type 0} (f : Y → ℕ) (g : X → Y) (xs : List X) → sum_by f (map g xs) ≡ sum_by (λ x. f (g x)) xs
sum_by-map f g [] = refl
sum_by-map f g (x ∷ xs) = omega (arith, sum_by-cons f (g x) (map g xs), sum_by-cons (λ x. f (g x)) x xs, sum_by-map f g xs)

pub sum_by-flat_map : {X Y : Type 0} (f : Y → ℕ) (g : X → List Y) (xs : List X) → sum_by f (flat_map g xs) ≡ sum_by (λ x. sum_by f (g x)) xs
sum_by-flat_map f g [] = refl
sum_by-flat_map f g (x ∷ xs) =
    omega (arith, sum_by-append f (g x) (flat_map g xs), sum_by-cons (λ x. sum_by f (g x)) x xs, sum_by-flat_map f g xs)

kept : {X : Type 0} (b : Bool) (f : X → ℕ) (x : X) (xs : List X) → sum_by f (cond b (x ∷ xs) xs) ≡ share b (f x) + sum_by f xs
kept true f x xs = sum_by-cons f x xs
kept false f x xs = sym (zero-add (sum_by f xs))

pub sum_by-filter : {X : Type 0} (p : X → Bool) (f : X → ℕ) (xs : List X) → sum_by f (filter p xs) ≡ sum_by (λ x. share (p x) (f x)) xs
sum_by-filter p f [] = refl
sum_by-filter p f (x ∷ xs) =
    omega (arith, kept (p x) f x (filter p xs), sum_by-cons (λ x. share (p x) (f x)) x xs, sum_by-filter p f xs)

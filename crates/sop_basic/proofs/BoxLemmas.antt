-- Primitives of boxes and grids have four points.
use Rattle.std.proofs.Common.{◌≡◌, ℕ, ◌==◌, ◌<◌, Bool, true, false, List, [], ◌∷◌, length, refl, sym, subst, arith}
use Rattle.std.specs.Prelude.{if◌then◌else◌, All}
use Rattle.std.proofs.lemmas.List.Elements.{All-from_recursion}
use Rattle.sop_basic.specs.Rules.{side_corners}

four_of : (b : Bool) (xs ys : List ℕ) → length xs ≡ 4 → length ys ≡ 4 → length (if b then xs else ys) ≡ 4
four_of true xs ys a b = a
four_of false xs ys a b = b

pub four_corners : (i : ℕ) → length (side_corners i) ≡ 4
four_corners i =
    four_of (i == 0) _ _ refl (four_of (i == 1) _ _ refl (four_of (i == 2) _ _ refl (four_of (i == 3) _ _ refl (four_of (i == 4) _ _ refl refl))))

all_if : (P : ℕ → Type 0) (b : Bool) (xs ys : List ℕ) → All P xs → All P ys → All P (if b then xs else ys)
all_if P true xs ys a b = a
all_if P false xs ys a b = b

-- each point of a side is one of the eight
quad_below : (a b c d : ℕ) → a < 8 → b < 8 → c < 8 → d < 8 → All (λ p. p < 8) (a ∷ b ∷ c ∷ d ∷ [])
quad_below a b c d la lb lc ld = All-from_recursion (λ p. p < 8) (a ∷ b ∷ c ∷ d ∷ []) (la, (lb, (lc, (ld, tt))))

pub sides_below : (i : ℕ) → All (λ p. p < 8) (side_corners i)
sides_below i =
    let P = λ (p : ℕ). p < 8 in
    all_if P (i == 0) _ _ (quad_below 0 2 3 1 (omega arith) (omega arith) (omega arith) (omega arith))
    (all_if P (i == 1) _ _ (quad_below 4 5 7 6 (omega arith) (omega arith) (omega arith) (omega arith))
    (all_if P (i == 2) _ _ (quad_below 0 1 5 4 (omega arith) (omega arith) (omega arith) (omega arith))
    (all_if P (i == 3) _ _ (quad_below 2 6 7 3 (omega arith) (omega arith) (omega arith) (omega arith))
    (all_if P (i == 4) _ _ (quad_below 0 4 6 2 (omega arith) (omega arith) (omega arith) (omega arith)) (quad_below 1 3 7 5 (omega arith) (omega arith) (omega arith) (omega arith))))))

pub side_within : (n : ℕ) → n ≡ 8 → (i : ℕ) → All (λ p. p < n) (side_corners i)
side_within n is i = subst (λ n. All (λ p. p < n) (side_corners i)) (sym is) (sides_below i)

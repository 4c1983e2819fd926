use Rattle.std.proofs.Common.{◌≡◌, ◌+◌, ◌<◌, ℕ, ◌∷◌, [], length, ap, sym, subst, arith}
use Rattle.std.specs.Prelude.{All}
use Rattle.std.proofs.lemmas.List.Elements.{All-nil, All-cons}
use Rattle.std.proofs.lemmas.List.Sorted.{IsPermutation-reverse}
use Rattle.sop_model.specs.Rows.{IsOrderOf}
use Rattle.sop_shape.proofs.tests.shapes_are_read_and_changed.Goals as goal

-- two numbers in the other order
turned : IsOrderOf 2 (1 ∷ 0 ∷ [])
turned = IsPermutation-reverse (0 ∷ 1 ∷ [])

each_below : (P : ℕ → Type 0) → P 0 → P 1 → All P (0 ∷ 1 ∷ 1 ∷ [])
each_below P zero_is one_is = All-cons P 0 (1 ∷ 1 ∷ []) zero_is (All-cons P 1 (1 ∷ []) one_is (All-cons P 1 [] one_is (All-nil P)))

pub is_read-requires-clause-prims : goal.is_read-requires-clause-prims
is_read-requires-clause-prims g c = let two : length c.in_ok-shape.shape.closed ≡ 2 = ap (λ s. length s.closed) c.in_ok-shape.ensures in omega arith

pub is_read-requires-clause-vertices : goal.is_read-requires-clause-vertices
is_read-requires-clause-vertices g c = let three : length c.in_ok-shape.shape.refers ≡ 3 = ap (λ s. length s.refers) c.in_ok-shape.ensures in omega arith

pub is_reordered-requires-clause-prims : goal.is_reordered-requires-clause-prims
is_reordered-requires-clause-prims g c = let two : length c.in_ok-shape.shape.closed ≡ 2 = ap (λ s. length s.closed) c.in_ok-shape.ensures in subst (λ n. IsOrderOf n (1 ∷ 0 ∷ [])) (sym two) turned

pub is_reordered-requires-clause-points : goal.is_reordered-requires-clause-points
is_reordered-requires-clause-points g c = turned

pub is_reordered-requires-clause-refers : goal.is_reordered-requires-clause-refers
is_reordered-requires-clause-refers g c = subst (All (λ n. n < 2)) (sym (ap (λ s. s.refers) c.in_ok-shape.ensures)) (each_below (λ n. n < 2) (omega arith) (omega arith))

pub is_longer-requires-clause-prims : goal.is_longer-requires-clause-prims
is_longer-requires-clause-prims g c =
    let two : length c.in_ok-shape.shape.closed ≡ 2 = ap (λ s. length s.closed) c.in_ok-shape.ensures in
    let other_two : length c.in_ok-other.other.closed ≡ 2 = ap (λ s. length s.closed) c.in_ok-other.ensures in
    omega arith

pub is_longer-requires-clause-vertices : goal.is_longer-requires-clause-vertices
is_longer-requires-clause-vertices g c =
    let three : length c.in_ok-shape.shape.refers ≡ 3 = ap (λ s. length s.refers) c.in_ok-shape.ensures in
    let other_three : length c.in_ok-other.other.refers ≡ 3 = ap (λ s. length s.refers) c.in_ok-other.ensures in
    omega arith

pub is_longer-requires-clause-refers : goal.is_longer-requires-clause-refers
is_longer-requires-clause-refers g c = subst (All (λ n. 2 + n < 4294967296)) (sym (ap (λ s. s.refers) c.in_ok-other.ensures)) (each_below (λ n. 2 + n < 4294967296) (omega arith) (omega arith))

pub is_longer-requires-clause-first : goal.is_longer-requires-clause-first
is_longer-requires-clause-first g c = let two : length c.in_ok-other.other.closed ≡ 2 = ap (λ s. length s.closed) c.in_ok-other.ensures in omega arith

pub is_longer-requires-clause-few : goal.is_longer-requires-clause-few
is_longer-requires-clause-few g c = let three : length c.in_ok-other.other.refers ≡ 3 = ap (λ s. length s.refers) c.in_ok-other.ensures in omega arith

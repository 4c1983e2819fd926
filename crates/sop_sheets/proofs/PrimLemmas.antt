-- Primitives made of the parts of some primitives are these again.
use Rattle.std.proofs.Common.{◌≡◌, ℕ, ◌+◌, ◌-◌, List, [], ◌∷◌, ◌++◌, zero, suc, length, map, take, drop, refl, ap, ◌∙◌, arith}
use Rattle.std.proofs.lemmas.List.{length-map, map-append}
use Rattle.sop_model.specs.declared.geo.Corner.{Corner}
use Rattle.sop_model.specs.declared.geo.Primitive.{Primitive}
use Rattle.sop_model.specs.Vertices.{size_of, corners_of, ends_of}
use Rattle.sop_sheets.specs.Primitives.{corners_from, prims_from}

taken : {X : Type 0} (n : ℕ) (xs ys : List X) → length xs ≡ n → take n (xs ++ ys) ≡ xs
taken zero [] ys long = refl
taken zero (x ∷ xs) ys long = absurd (omega arith)
taken (suc n) [] ys long = absurd (omega arith)
taken (suc n) (x ∷ xs) ys long = ap (λ r. x ∷ r) (taken n xs ys (omega arith))

dropped : {X : Type 0} (n : ℕ) (xs ys : List X) → length xs ≡ n → drop n (xs ++ ys) ≡ ys
dropped zero [] ys long = refl
dropped zero (x ∷ xs) ys long = absurd (omega arith)
dropped (suc n) [] ys long = absurd (omega arith)
dropped (suc n) (x ∷ xs) ys long = dropped n xs ys (omega arith)

pub corners_again : (cs : List Corner) → corners_from (map (λ c. c.point) cs) (map (λ c. c.row) cs) ≡ cs
corners_again [] = refl
corners_again (c ∷ cs) = ap (λ r. c ∷ r) (corners_again cs)

pub prims_again : (before : ℕ) (prims : List Primitive) → prims_from before (map (λ p. p.closed) prims) (ends_of before prims) (map (λ c. c.point) (corners_of prims)) (map (λ p. p.row) prims) (map (λ c. c.row) (corners_of prims)) ≡ prims
prims_again before [] = refl
prims_again before (p ∷ prims) =
    let size : before + size_of p - before ≡ size_of p = omega arith in
    let points = map-append (λ c. c.point) p.corners (corners_of prims) in
    let rows = map-append (λ c. c.row) p.corners (corners_of prims) in
    let many = length-map p.corners (λ c. c.point) in
    let many_rows = length-map p.corners (λ c. c.row) in
    let own_points = (λ j. take (size j) (points j)) ∙ taken (size_of p) (map (λ c. c.point) p.corners) (map (λ c. c.point) (corners_of prims)) many in
    let own_rows = (λ j. take (size j) (rows j)) ∙ taken (size_of p) (map (λ c. c.row) p.corners) (map (λ c. c.row) (corners_of prims)) many_rows in
    let left_points = (λ j. drop (size j) (points j)) ∙ dropped (size_of p) (map (λ c. c.point) p.corners) (map (λ c. c.point) (corners_of prims)) many in
    let left_rows = (λ j. drop (size j) (rows j)) ∙ dropped (size_of p) (map (λ c. c.row) p.corners) (map (λ c. c.row) (corners_of prims)) many_rows in
    let corners = (λ j. corners_from (own_points j) (own_rows j)) ∙ corners_again p.corners in
    let rest = (λ j. prims_from (before + size_of p) (map (λ q. q.closed) prims) (ends_of (before + size_of p) prims) (left_points j) (map (λ q. q.row) prims) (left_rows j)) ∙ prims_again (before + size_of p) prims in
    λ j. record { closed = p.closed; row = p.row; corners = corners j } ∷ rest j

-- What a view of a geometry gives, as its text wants it.
use Rattle.std.proofs.Common.{◌≡◌, ℕ, zero, suc, ◌+◌, ◌≤◌, List, [], ◌∷◌, ◌++◌, length, take, drop, append_assoc, append-nil, length-append, refl, sym, ap, subst, ◌∙◌, arith, Option, Some, None}
use Rattle.std.specs.Prelude.{slice_get}
use Rattle.std.specs.List.{flat_map}
use Rattle.std.specs.Option.{option_map}
use Rattle.std.proofs.lemmas.List.Sums.{sum_by-cons}
use Rattle.sop_model.specs.declared.geo.Primitive.{Primitive}
use Rattle.sop_model.specs.Vertices.{size_of, corners_of, first_vertex_in}

-- ---- one more item of a list
pub flat_map_more : {A : Type 0} (f : A → List ℕ) (xs : List A) (i : ℕ) (x : A) → slice_get xs i ≡ Some x → flat_map f (take (i + 1) xs) ≡ flat_map f (take i xs) ++ f x
flat_map_more f [] zero x e = cc
flat_map_more f [] (suc i) x e = cc
flat_map_more f (y ∷ xs) zero x e = let same : y ≡ x = cc in append-nil (f y) ∙ ap f same
flat_map_more f (y ∷ xs) (suc i) x e =
    let next : suc i + 1 ≡ suc (i + 1) = omega arith in
    ap (λ n. flat_map f (take n (y ∷ xs))) next ∙ ap (λ l. f y ++ l) (flat_map_more f xs i x e) ∙ sym (append_assoc (f y) (flat_map f (take i xs)) (f x))

-- the same of what is read of the item
mapped_some : {A B : Type 0} (h : A → B) (o : Option A) (y : B) → option_map h o ≡ Some y → (x : A) × (o ≡ Some x) × (h x ≡ y)
mapped_some h None y e = cc
mapped_some h (Some x) y e = (x, refl, cc)

pub flat_map_read : {A B : Type 0} (h : A → B) (f : B → List ℕ) (xs : List A) (i : ℕ) (y : B) → option_map h (slice_get xs i) ≡ Some y → flat_map (λ x. f (h x)) (take (i + 1) xs) ≡ flat_map (λ x. f (h x)) (take i xs) ++ f y
flat_map_read h f xs i y e =
    let (x, here, is) = mapped_some h (slice_get xs i) y e in
    flat_map_more (λ x. f (h x)) xs i x here ∙ ap (λ y. flat_map (λ x. f (h x)) (take i xs) ++ f y) is

-- ---- the vertices of one primitive among all
pub slice_get-drop : {A : Type 0} (xs : List A) (i k : ℕ) → slice_get (drop i xs) k ≡ slice_get xs (i + k)
slice_get-drop xs zero k = let e : k ≡ 0 + k = omega arith in ap (slice_get xs) e
slice_get-drop [] (suc i) k = refl
slice_get-drop (x ∷ xs) (suc i) k = let e : suc (i + k) ≡ suc i + k = omega arith in slice_get-drop xs i k ∙ ap (slice_get (x ∷ xs)) e

take_front : {A : Type 0} (xs ys : List A) → take (length xs) (xs ++ ys) ≡ xs
take_front [] ys = refl
take_front (x ∷ xs) ys = ap (λ l. x ∷ l) (take_front xs ys)

drop_front : {A : Type 0} (xs ys : List A) (n : ℕ) → drop (length xs + n) (xs ++ ys) ≡ drop n ys
drop_front [] ys n = let e : 0 + n ≡ n = omega arith in ap (λ k. drop k ys) e
drop_front (x ∷ xs) ys n = let e : suc (length xs) + n ≡ suc (length xs + n) = omega arith in ap (λ k. drop k (x ∷ (xs ++ ys))) e ∙ drop_front xs ys n

pub record PieceAt (prims : List Primitive) (i : ℕ) (p : Primitive) : Type 0 where
  pub inside : first_vertex_in prims i + size_of p ≤ length (corners_of prims)
  pub corners : take (size_of p) (drop (first_vertex_in prims i) (corners_of prims)) ≡ p.corners

pub piece_at : (prims : List Primitive) (i : ℕ) (p : Primitive) → slice_get prims i ≡ Some p → PieceAt prims i p
piece_at [] zero p e = cc
piece_at [] (suc i) p e = cc
piece_at (q ∷ prims) zero p e =
    let same : q ≡ p = cc in
    subst (PieceAt (q ∷ prims) 0) same (record { inside = omega (arith, length-append q.corners (corners_of prims)); corners = take_front q.corners (corners_of prims) })
piece_at (q ∷ prims) (suc i) p e =
    let rest = piece_at prims i p e in
    let first : first_vertex_in (q ∷ prims) (suc i) ≡ size_of q + first_vertex_in prims i = sum_by-cons size_of q (take i prims) in
    record {
      inside = omega (arith, rest.inside, first, length-append q.corners (corners_of prims));
      corners = ap (λ n. take (size_of p) (drop n (q.corners ++ corners_of prims))) first ∙ ap (take (size_of p)) (drop_front q.corners (corners_of prims) (first_vertex_in prims i)) ∙ rest.corners;
    }

pub prim_inside : (prims : List Primitive) (i first size : ℕ) → option_map size_of (slice_get prims i) ≡ Some size → first ≡ first_vertex_in prims i → first + size ≤ length (corners_of prims)
prim_inside prims i first size e at =
    let (p, here, is) = mapped_some size_of (slice_get prims i) size e in
    omega (arith, (piece_at prims i p here).inside, at, is)

-- a text that grew by one more item
pub list_more : {A : Type 0} (f : A → List ℕ) (xs : List A) (i : ℕ) (x : A) (old text longer : List ℕ) → slice_get xs i ≡ Some x → longer ≡ text ++ f x → text ≡ old ++ flat_map f (take i xs) → longer ≡ old ++ flat_map f (take (i + 1) xs)
list_more f xs i x old text longer is more so_far =
    more ∙ ap (λ t. t ++ f x) so_far ∙ append_assoc old (flat_map f (take i xs)) (f x) ∙ ap (λ l. old ++ l) (sym (flat_map_more f xs i x is))

-- a text that grew by what is read of one more item
pub text_more : {A B : Type 0} (h : A → B) (f : B → List ℕ) (xs : List A) (i : ℕ) (y : B) (old text longer : List ℕ) → option_map h (slice_get xs i) ≡ Some y → longer ≡ text ++ f y → text ≡ old ++ flat_map (λ x. f (h x)) (take i xs) → longer ≡ old ++ flat_map (λ x. f (h x)) (take (i + 1) xs)
text_more h f xs i y old text longer e more so_far =
    more ∙ ap (λ t. t ++ f y) so_far ∙ append_assoc old (flat_map (λ x. f (h x)) (take i xs)) (f y) ∙ ap (λ l. old ++ l) (sym (flat_map_read h f xs i y e))

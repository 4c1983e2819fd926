-- Lists: one item changed, one read and put back, one removed; what holds of each item of a mapped list.
use Rattle.std.proofs.Common.{◌≡◌, ℕ, zero, suc, ◌+◌, ◌<◌, List, [], ◌∷◌, ◌++◌, length, map, take, drop, set, Some, refl, ap, ◌∙◌, subst, arith}
use Rattle.std.specs.Prelude.{slice_get, option_map, remove, All}
use Rattle.std.proofs.lemmas.List.{length-append, get_or_append_left, get_or-append-add, get_or-map, length-map, map-append, take-map, drop-map}
use Rattle.std.proofs.lemmas.List.Elements.{All-cons, All-head, All-tail, All-append, All-take, All-drop}
use Rattle.sop_model.specs.Rows.{changed_at}

module _ {X : Type 0} where
  pub length-changed_at : (f : X → X) (xs : List X) (i : ℕ) → length (changed_at f xs i) ≡ length xs
  length-changed_at f [] i = refl
  length-changed_at f (x ∷ xs) zero = refl
  length-changed_at f (x ∷ xs) (suc i) = ap suc (length-changed_at f xs i)

  pub All-changed_at : (P : X → Type 0) (f : X → X) → ((x : X) → P x → P (f x)) → (xs : List X) (i : ℕ) → All P xs → All P (changed_at f xs i)
  All-changed_at P f keeps [] i all = all
  All-changed_at P f keeps (x ∷ xs) zero all = All-cons P (f x) xs (keeps x (All-head P x xs all)) (All-tail P x xs all)
  All-changed_at P f keeps (x ∷ xs) (suc i) all = All-cons P x (changed_at f xs i) (All-head P x xs all) (All-changed_at P f keeps xs i (All-tail P x xs all))

  -- an item put where it stands
  pub set_back : (xs : List X) (i : ℕ) (x : X) → slice_get xs i ≡ Some x → set xs i x ≡ xs
  set_back [] i x is = refl
  set_back (y ∷ xs) zero x is = cc
  set_back (y ∷ xs) (suc i) x is = ap (λ r. y ∷ r) (set_back xs i x is)

  pub slice_get-in : (xs : List X) (i : ℕ) (x : X) → slice_get xs i ≡ Some x → i < length xs
  slice_get-in [] i x is = cc
  slice_get-in (y ∷ xs) zero x is = omega arith
  slice_get-in (y ∷ xs) (suc i) x is = omega (arith, slice_get-in xs i x is)

  -- what holds of each item of two lists in a row
  pub All-left : (P : X → Type 0) (xs ys : List X) → All P (xs ++ ys) → All P xs
  All-left P xs ys all k d lt = subst P (get_or_append_left xs ys d k lt) (all k d (omega (arith, length-append xs ys)))

  pub All-right : (P : X → Type 0) (xs ys : List X) → All P (xs ++ ys) → All P ys
  All-right P xs ys all k d lt = subst P (get_or-append-add xs ys k d) (all (length xs + k) d (omega (arith, length-append xs ys)))

  pub All-remove : (P : X → Type 0) (xs : List X) (i : ℕ) → All P xs → All P (remove xs i)
  All-remove P xs i all = All-append P (take i xs) (drop (suc i) xs) (All-take P i xs all) (All-drop P (suc i) xs all)

module _ {X Y : Type 0} where
  pub slice_get-map : (f : X → Y) (xs : List X) (i : ℕ) → slice_get (map f xs) i ≡ option_map f (slice_get xs i)
  slice_get-map f [] i = refl
  slice_get-map f (x ∷ xs) zero = refl
  slice_get-map f (x ∷ xs) (suc i) = slice_get-map f xs i

  pub map-remove : (f : X → Y) (xs : List X) (i : ℕ) → map f (remove xs i) ≡ remove (map f xs) i
  map-remove f xs i = map-append f (take i xs) (drop (suc i) xs) ∙ (let a = take-map f i xs in let b = drop-map f (suc i) xs in cc)

  -- what holds of each item of a mapped list
  pub All-under_map : (P : X → Type 0) (f : Y → X) (ys : List Y) → All P (map f ys) → All (λ y. P (f y)) ys
  All-under_map P f ys all k d lt = subst P (get_or-map f ys k d (f d) lt) (all k (f d) (omega (arith, length-map ys f)))

  -- two maps that agree at each item
  pub map_agree : (f g : X → Y) (xs : List X) → All (λ x. f x ≡ g x) xs → map f xs ≡ map g xs
  map_agree f g [] all = refl
  map_agree f g (x ∷ xs) all =
      let here = All-head (λ x. f x ≡ g x) x xs all in
      let rest = map_agree f g xs (All-tail (λ x. f x ≡ g x) x xs all) in
      cc

-- Lists of primitives and vertices by their numbers.
use Rattle.std.proofs.Common.{◌≡◌, ℕ, zero, suc, ◌+◌, ◌-◌, ◌<◌, ◌≤◌, List, [], ◌∷◌, ◌++◌, length, map, take, replicate, get_or, false, refl, sym, ap, ◌∙◌, arith, append_assoc, Some}
use Rattle.std.specs.Prelude.{All, slice_get}
use Rattle.std.specs.List.{range_with_len}
use Rattle.std.proofs.lemmas.List.{replicate_more}
use Rattle.std.proofs.lemmas.List.Elements.{All-head, All-tail}
use Rattle.std.proofs.lemmas.List.FromFn.{length-map-range_with_len}
use Rattle.sop_model.specs.declared.geo.Corner.{Corner}
use Rattle.sop_model.specs.Vertices.{size_of, corners_of, ends_of}
use Rattle.geo_text.specs.declared.columns.Outline.{Outline}
use Rattle.geo_text.specs.ObjTaking.{flag_more}
use Rattle.geo_text.specs.ObjColumns.{flags_among, outlined_prim, outlined_prims, last_end, Rise}

-- NUMBERS

pub map-range-same : {A : Type 0} (f g : ℕ → A) (a n : ℕ) → ((i : ℕ) → a ≤ i → i < a + n → f i ≡ g i) → map f (range_with_len a n) ≡ map g (range_with_len a n)
map-range-same f g a zero same = refl
map-range-same f g a (suc n) same =
    ap (λ x. x ∷ map f (range_with_len (a + 1) n)) (same a (omega arith) (omega arith))
    ∙ ap (λ xs. g a ∷ xs) (map-range-same f g (a + 1) n (λ i le lt. same i (omega arith) (omega arith)))

pub map-range-split : {A : Type 0} (f : ℕ → A) (a m n : ℕ) → map f (range_with_len a m) ++ map f (range_with_len (a + m) n) ≡ map f (range_with_len a (m + n))
map-range-split f a zero n =
    let at : a + 0 ≡ a = omega arith in
    let size : n ≡ 0 + n = omega arith in
    ap (λ k. map f (range_with_len k n)) at ∙ ap (λ k. map f (range_with_len a k)) size
map-range-split f a (suc m) n =
    let at : a + suc m ≡ a + 1 + m = omega arith in
    let size : suc (m + n) ≡ suc m + n = omega arith in
    ap (λ k. f a ∷ (map f (range_with_len (a + 1) m) ++ map f (range_with_len k n))) at ∙ ap (λ xs. f a ∷ xs) (map-range-split f (a + 1) m n) ∙ ap (λ k. map f (range_with_len a k)) size

pub slice_get-map-range : {A : Type 0} (f : ℕ → A) (a n i : ℕ) → i < n → slice_get (map f (range_with_len a n)) i ≡ Some (f (a + i))
slice_get-map-range f a zero i h = absurd (omega arith)
slice_get-map-range f a (suc n) zero h =
    let at : a ≡ a + 0 = omega arith in
    ap (λ k. Some (f k)) at
slice_get-map-range f a (suc n) (suc i) h =
    let at : a + 1 + i ≡ a + suc i = omega arith in
    slice_get-map-range f (a + 1) n i (omega arith) ∙ ap (λ k. Some (f k)) at

-- ENDS

pub last_end-le : (start : ℕ) (ends : List ℕ) → Rise start ends → start ≤ last_end start ends
last_end-le start [] rise = omega arith
last_end-le start (end ∷ ends) rise = omega (arith, rise.0, last_end-le end ends rise.1)

pub last_end-push : (start : ℕ) (ends : List ℕ) (e : ℕ) → last_end start (ends ++ e ∷ []) ≡ e
last_end-push start [] e = refl
last_end-push start (end ∷ ends) e = last_end-push end ends e

pub Rise-push : (start : ℕ) (ends : List ℕ) (e : ℕ) → Rise start ends → last_end start ends ≤ e → Rise start (ends ++ e ∷ [])
Rise-push start [] e rise le = (le, tt)
Rise-push start (end ∷ ends) e rise le = (rise.0, Rise-push end ends e rise.1 le)

-- PRIMITIVES

-- other vertices behind the last end change nothing
pub outlined_prims-same : (f g : ℕ → Corner) (groups start : ℕ) (ends : List ℕ) (os : List Outline) → Rise start ends → ((i : ℕ) → start ≤ i → i < last_end start ends → f i ≡ g i)
    → outlined_prims f groups start ends os ≡ outlined_prims g groups start ends os
outlined_prims-same f g groups start [] os rise same = refl
outlined_prims-same f g groups start (end ∷ ends) [] rise same = refl
outlined_prims-same f g groups start (end ∷ ends) (o ∷ os) rise same =
    let le = last_end-le end ends rise.1 in
    let here = map-range-same f g start (end - start) (λ i ge lt. same i ge (omega (arith, rise.0))) in
    let rest = outlined_prims-same f g groups end ends os rise.1 (λ i ge lt. same i (omega (arith, rise.0)) lt) in
    let first : outlined_prim f groups start end o ≡ outlined_prim g groups start end o = ap (λ (cs : List Corner). record { closed = o.closed; row = record { values = []; flags = flags_among groups o }; corners = cs }) here in
    cc

-- one primitive more
pub outlined_prims-push : (f : ℕ → Corner) (groups start : ℕ) (ends : List ℕ) (os : List Outline) (e : ℕ) (o : Outline) → length ends ≤ length os
    → outlined_prims f groups start (ends ++ e ∷ []) (take (length ends) os ++ o ∷ []) ≡ outlined_prims f groups start ends os ++ outlined_prim f groups (last_end start ends) e o ∷ []
outlined_prims-push f groups start [] os e o long = refl
outlined_prims-push f groups start (end ∷ ends) [] e o long = absurd (omega arith)
outlined_prims-push f groups start (end ∷ ends) (p ∷ os) e o long = ap (λ ps. outlined_prim f groups start end p ∷ ps) (outlined_prims-push f groups end ends os e o (omega arith))

flags-more : (groups : ℕ) (o : Outline) → o.known ≤ groups → flags_among (groups + 1) o ≡ flags_among groups o ++ false ∷ []
flags-more groups o h =
    let size : groups + 1 - o.known ≡ groups - o.known + 1 = omega arith in
    ap (λ n. o.flags.items ++ replicate n false) size ∙ ap (λ fs. o.flags.items ++ fs) (sym (replicate_more (groups - o.known) false)) ∙ sym (append_assoc o.flags.items (replicate (groups - o.known) false) (false ∷ []))

-- one group more
pub outlined_prims-more : (f : ℕ → Corner) (groups start : ℕ) (ends : List ℕ) (os : List Outline) → All (λ o. o.known ≤ groups) os
    → outlined_prims f (groups + 1) start ends os ≡ map flag_more (outlined_prims f groups start ends os)
outlined_prims-more f groups start [] os known = refl
outlined_prims-more f groups start (end ∷ ends) [] known = refl
outlined_prims-more f groups start (end ∷ ends) (o ∷ os) known =
    let flags = flags-more groups o (All-head (λ o. o.known ≤ groups) o os known) in
    let first : outlined_prim f (groups + 1) start end o ≡ flag_more (outlined_prim f groups start end o) = ap (λ (fs : List _). record { closed = o.closed; row = record { values = []; flags = fs }; corners = map f (range_with_len start (end - start)) }) flags in
    let rest = outlined_prims-more f groups end ends os (All-tail (λ o. o.known ≤ groups) o os known) in
    cc

-- READING

pub ends_of-outlined_prims : (f : ℕ → Corner) (groups start : ℕ) (ends : List ℕ) (os : List Outline) → Rise start ends → length ends ≤ length os → ends_of start (outlined_prims f groups start ends os) ≡ ends
ends_of-outlined_prims f groups start [] os rise long = refl
ends_of-outlined_prims f groups start (end ∷ ends) [] rise long = absurd (omega arith)
ends_of-outlined_prims f groups start (end ∷ ends) (o ∷ os) rise long =
    let size : start + size_of (outlined_prim f groups start end o) ≡ end = omega (arith, rise.0, length-map-range_with_len f start (end - start)) in
    ap (λ n. n ∷ ends_of n (outlined_prims f groups end ends os)) size ∙ ap (λ es. end ∷ es) (ends_of-outlined_prims f groups end ends os rise.1 (omega arith))

pub corners_of-outlined_prims : (f : ℕ → Corner) (groups start : ℕ) (ends : List ℕ) (os : List Outline) → Rise start ends → length ends ≤ length os
    → corners_of (outlined_prims f groups start ends os) ≡ map f (range_with_len start (last_end start ends - start))
corners_of-outlined_prims f groups start [] os rise long =
    let none : 0 ≡ start - start = omega arith in
    ap (λ n. map f (range_with_len start n)) none
corners_of-outlined_prims f groups start (end ∷ ends) [] rise long = absurd (omega arith)
corners_of-outlined_prims f groups start (end ∷ ends) (o ∷ os) rise long =
    let le = last_end-le end ends rise.1 in
    let rest = corners_of-outlined_prims f groups end ends os rise.1 (omega arith) in
    let at : end ≡ start + (end - start) = omega (arith, rise.0) in
    let size : end - start + (last_end end ends - end) ≡ last_end end ends - start = omega (arith, rise.0) in
    ap (λ cs. map f (range_with_len start (end - start)) ++ cs) rest
    ∙ ap (λ n. map f (range_with_len start (end - start)) ++ map f (range_with_len n (last_end end ends - end))) at
    ∙ map-range-split f start (end - start) (last_end end ends - end)
    ∙ ap (λ n. map f (range_with_len start n)) size

pub outlined_prims-get : (f : ℕ → Corner) (groups start : ℕ) (ends : List ℕ) (os : List Outline) (i d : ℕ) (o : Outline) → i < length ends → slice_get os i ≡ Some o
    → slice_get (outlined_prims f groups start ends os) i ≡ Some (outlined_prim f groups (get_or (start ∷ ends) i d) (get_or ends i d) o)
outlined_prims-get f groups start [] os i d o lt at = absurd (omega arith)
outlined_prims-get f groups start (end ∷ ends) [] i d o lt at = absurd (cc)
outlined_prims-get f groups start (end ∷ ends) (p ∷ os) zero d o lt at = ap (λ x. x) (cc)
outlined_prims-get f groups start (end ∷ ends) (p ∷ os) (suc i) d o lt at = outlined_prims-get f groups end ends os i d o (omega arith) at

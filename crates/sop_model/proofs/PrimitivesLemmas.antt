-- Lemmas on primitives that are changed in place, and on vertices that are added to many of them.
use Rattle.std.proofs.Common.{◌≡◌, ℕ, zero, suc, ◌+◌, ◌-◌, ◌<◌, ◌≤◌, true, false, ◌==◌, List, [], ◌∷◌, ◌++◌, length, map, filter, take, get_or, set, refl, sym, ◌∙◌, ap, arith, append_assoc, append-nil, length-append}
use Rattle.std.specs.Prelude.{sum_by, slice_get, Some, IsSomeAnd, if◌then◌else◌}
use Rattle.std.proofs.Math.Seq.{take-append_seam}
use Rattle.std.proofs.lemmas.Bool.Decides.{nat_tests}
use Rattle.std.proofs.lemmas.Option.{slice_get-get_or}
use Rattle.std.proofs.lemmas.List.{map-append, length-set, take_more}
use Rattle.std.proofs.lemmas.List.Elements.{filter-append}
use Rattle.std.proofs.lemmas.List.Sums.{sum_by-cons, sum_by_more}
use Rattle.sop_model.specs.declared.geo.Corner.{Corner}
use Rattle.sop_model.specs.declared.geo.Row.{Row}
use Rattle.sop_model.specs.declared.geo.Primitive.{Primitive}
use Rattle.sop_model.specs.Vertices.{size_of, ends_of, first_vertex_in, with_row, with_corner, corners_for, with_more, longer_from, longer_prims}
use Rattle.sop_model.specs.Rows.{changed_at}
use Rattle.sop_model.specs.Shortening.{shortened}
use Rattle.sop_model.proofs.VerticesLemmas.{ends_of-push}

-- one primitive changed

pub set-changed_at : {A : Type 0} (change : A → A) (xs : List A) (i : ℕ) (x y : A) → slice_get xs i ≡ Some x → y ≡ change x → set xs i y ≡ changed_at change xs i
set-changed_at change [] i x y at is = refl
set-changed_at change (z ∷ xs) zero x y at is = let same : z ≡ x = cc in ap (λ w. w ∷ xs) (is ∙ ap change (sym same))
set-changed_at change (z ∷ xs) (suc i) x y at is = ap (λ ys. z ∷ ys) (set-changed_at change xs i x y at is)

abbrev with_corners : List Corner → Primitive → Primitive
with_corners corners p = record p { corners = corners }

-- an item that was read in its place
pub found : {A : Type 0} (xs : List A) (i : ℕ) (x : A) → i < length xs → x ≡ get_or xs i x → slice_get xs i ≡ Some x
found xs i x lt is = slice_get-get_or xs i x lt ∙ ap Some (sym is)

pub in_list : {A : Type 0} (P : A → Type 0) (xs : List A) (i : ℕ) → IsSomeAnd (slice_get xs i) P → i < length xs
in_list P [] i is = absurd is
in_list P (x ∷ xs) zero is = omega arith
in_list P (x ∷ xs) (suc i) is = omega (arith, in_list P xs i is)

pub set-with_row : (prims : List Primitive) (i : ℕ) (p : Primitive) (row dest : Row) → slice_get prims i ≡ Some p → dest ≡ row → set prims i (with_row dest p) ≡ changed_at (with_row row) prims i
set-with_row prims i p row dest at put = set-changed_at (with_row row) prims i p (with_row dest p) at (ap (λ r. with_row r p) put)

pub set-with_corner : (prims : List Primitive) (i place : ℕ) (p : Primitive) (corner : Corner) (corners : List Corner) → slice_get prims i ≡ Some p → corners ≡ set p.corners place corner → set prims i (with_corners corners p) ≡ changed_at (with_corner place corner) prims i
set-with_corner prims i place p corner corners at put = set-changed_at (with_corner place corner) prims i p (with_corners corners p) at (ap (λ cs. with_corners cs p) put)

pub set-with_more : (prims : List Primitive) (i : ℕ) (p : Primitive) (corner : Corner) (corners : List Corner) → slice_get prims i ≡ Some p → corners ≡ p.corners ++ corner ∷ [] → set prims i (with_corners corners p) ≡ changed_at (with_more (corner ∷ [])) prims i
set-with_more prims i p corner corners at put = set-changed_at (with_more (corner ∷ [])) prims i p (with_corners corners p) at (ap (λ cs. with_corners cs p) put)

ends_of-changed_at : (change : Primitive → Primitive) → ((p : Primitive) → size_of (change p) ≡ size_of p) → (before : ℕ) (prims : List Primitive) (i : ℕ) → ends_of before (changed_at change prims i) ≡ ends_of before prims
ends_of-changed_at change same before [] i = refl
ends_of-changed_at change same before (p ∷ prims) zero = ap (λ n. (before + n) ∷ ends_of (before + n) prims) (same p)
ends_of-changed_at change same before (p ∷ prims) (suc i) = ap (λ ends. (before + size_of p) ∷ ends) (ends_of-changed_at change same (before + size_of p) prims i)

pub ends_of-with_row : (row : Row) (prims : List Primitive) (i : ℕ) → ends_of 0 (changed_at (with_row row) prims i) ≡ ends_of 0 prims
ends_of-with_row row prims i = ends_of-changed_at (with_row row) (λ p. refl) 0 prims i

pub ends_of-with_corner : (place : ℕ) (corner : Corner) (prims : List Primitive) (i : ℕ) → ends_of 0 (changed_at (with_corner place corner) prims i) ≡ ends_of 0 prims
ends_of-with_corner place corner prims i = ends_of-changed_at (with_corner place corner) (λ p. length-set p.corners place corner) 0 prims i

pub sum_by-with_more : (corner : Corner) (prims : List Primitive) (i : ℕ) → sum_by size_of (changed_at (with_more (corner ∷ [])) prims i) ≤ sum_by size_of prims + 1
sum_by-with_more corner [] i = omega arith
sum_by-with_more corner (p ∷ prims) zero = omega (arith, sum_by-cons size_of p prims, sum_by-cons size_of (with_more (corner ∷ []) p) prims, length-append p.corners (corner ∷ []))
sum_by-with_more corner (p ∷ prims) (suc i) = omega (arith, sum_by-cons size_of p prims, sum_by-cons size_of p (changed_at (with_more (corner ∷ [])) prims i), sum_by-with_more corner prims i)

-- one more vertex that is added

corners_for-append : (j : ℕ) (adds more : List (ℕ × Corner)) → corners_for j (adds ++ more) ≡ corners_for j adds ++ corners_for j more
corners_for-append j adds more =
    ap (map (λ a. a.1)) (filter-append (λ a. a.0 == j) adds more) ∙ map-append (λ a. a.1) (filter (λ a. a.0 == j) adds) (filter (λ a. a.0 == j) more)

corners_for-here : (j : ℕ) (c : Corner) (adds : List (ℕ × Corner)) → corners_for j (adds ++ (j, c) ∷ []) ≡ corners_for j adds ++ c ∷ []
corners_for-here j c adds =
    let same : (j == j) ≡ true = grind (arith, nat_tests) in
    corners_for-append j adds ((j, c) ∷ []) ∙ ap (λ b. corners_for j adds ++ map {A = ℕ × Corner} (λ a. a.1) (if b then (j, c) ∷ [] else [])) same

corners_for-other : (j k : ℕ) (c : Corner) (adds : List (ℕ × Corner)) → (k == j) ≡ false → corners_for j (adds ++ (k, c) ∷ []) ≡ corners_for j adds
corners_for-other j k c adds other =
    corners_for-append j adds ((k, c) ∷ []) ∙ ap (λ b. corners_for j adds ++ map {A = ℕ × Corner} (λ a. a.1) (if b then (k, c) ∷ [] else [])) other ∙ append-nil (corners_for j adds)

-- the vertices that are added to primitives from a number on

abbrev longer_with : ℕ → List (ℕ × Corner) → List Primitive → List Primitive
longer_with first adds prims = longer_from (λ i. corners_for i adds) first prims

none_added : (first : ℕ) (prims : List Primitive) → longer_with first [] prims ≡ prims
none_added first [] = refl
none_added first (p ∷ prims) =
    let here = ap (λ cs. with_corners cs p) (append-nil p.corners) in
    let rest = none_added (suc first) prims in
    cc

-- a vertex for a primitive that stands before changes nothing
before_added : (first k : ℕ) (c : Corner) (adds : List (ℕ × Corner)) (prims : List Primitive) → k < first → longer_with first (adds ++ (k, c) ∷ []) prims ≡ longer_with first adds prims
before_added first k c adds [] lt = refl
before_added first k c adds (p ∷ prims) lt =
    let other : (k == first) ≡ false = grind (arith, nat_tests) in
    let here = ap (λ cs. with_more cs p) (corners_for-other first k c adds other) in
    let rest = before_added (suc first) k c adds prims (omega arith) in
    cc

more_twice : (c : Corner) (corners : List Corner) (p : Primitive) → with_more (corners ++ c ∷ []) p ≡ with_more (c ∷ []) (with_more corners p)
more_twice c corners p = ap (λ cs. with_corners cs p) (sym (append_assoc p.corners corners (c ∷ [])))

added_more : (first i k : ℕ) (c : Corner) (adds : List (ℕ × Corner)) (prims : List Primitive) → k ≡ first + i → longer_with first (adds ++ (k, c) ∷ []) prims ≡ changed_at (with_more (c ∷ [])) (longer_with first adds prims) i
added_more first i k c adds [] is = refl
added_more first zero k c adds (p ∷ prims) is =
    let same : k ≡ first = omega arith in
    let here = ap (λ j. with_more (corners_for first (adds ++ (j, c) ∷ [])) p) same ∙ ap (λ cs. with_more cs p) (corners_for-here first c adds) ∙ more_twice c (corners_for first adds) p in
    let rest = before_added (suc first) k c adds prims (omega arith) in
    cc
added_more first (suc i) k c adds (p ∷ prims) is =
    let other : (k == first) ≡ false = grind (arith, nat_tests) in
    let here = ap (λ cs. with_more cs p) (corners_for-other first k c adds other) in
    let rest = added_more (suc first) i k c adds prims (omega arith) in
    cc

pub longer_prims-nil : (prims : List Primitive) → longer_prims [] prims ≡ prims
longer_prims-nil prims = none_added 0 prims

pub longer_prims-push : (i : ℕ) (c : Corner) (adds : List (ℕ × Corner)) (prims : List Primitive) → longer_prims (adds ++ (i, c) ∷ []) prims ≡ changed_at (with_more (c ∷ [])) (longer_prims adds prims) i
longer_prims-push i c adds prims = added_more 0 i i c adds prims (omega arith)

-- what was added is taken back

taken_back : (before first : ℕ) (adds : List (ℕ × Corner)) (prims : List Primitive) → shortened before (ends_of before prims) (longer_with first adds prims) ≡ prims
taken_back before first adds [] = refl
taken_back before first adds (p ∷ prims) =
    let size : before + size_of p - before ≡ size_of p = omega arith in
    let own = ap (λ n. take n (p.corners ++ corners_for first adds)) size ∙ take-append_seam p.corners (corners_for first adds) in
    let here = ap (λ cs. with_corners cs p) own in
    let rest = taken_back (before + size_of p) (suc first) adds prims in
    cc

pub shortened-added : (adds : List (ℕ × Corner)) (prims : List Primitive) → shortened 0 (ends_of 0 prims) (longer_prims adds prims) ≡ prims
shortened-added adds prims = taken_back 0 0 adds prims

-- the primitives up to one more with no more vertices than they had
abbrev cut : ℕ → Primitive → Primitive
cut size p = with_corners (take size p.corners) p

shortened_from : (before : ℕ) (ends : List ℕ) (prims : List Primitive) (i : ℕ) → i < length ends → shortened before (take (suc i) ends) prims ≡ changed_at (cut (get_or ends i 0 - get_or (before ∷ ends) i 0)) (shortened before (take i ends) prims) i
shortened_from before [] prims i lt = absurd (omega arith)
shortened_from before (e ∷ ends) [] zero lt = refl
shortened_from before (e ∷ ends) [] (suc i) lt = refl
shortened_from before (e ∷ ends) (p ∷ prims) zero lt = refl
shortened_from before (e ∷ ends) (p ∷ prims) (suc i) lt = ap (λ ps. cut (e - before) p ∷ ps) (shortened_from e ends prims i (omega arith))

pub shortened-more : (ends : List ℕ) (old prims : List Primitive) (i first end size : ℕ) (p : Primitive) (corners : List Corner) → i < length ends → slice_get prims i ≡ Some p
    → prims ≡ shortened 0 (take i ends) old → first ≡ get_or (0 ∷ ends) i 0 → end ≡ get_or ends i 0 → size ≡ end - first → corners ≡ take size p.corners
    → set prims i (with_corners corners p) ≡ shortened 0 (take (i + 1) ends) old
shortened-more ends old prims i first end size p corners lt at is first_is end_is size_is cut_is =
    let far : size ≡ get_or ends i 0 - get_or (0 ∷ ends) i 0 = size_is ∙ ap (λ n. n - first) end_is ∙ ap (λ n. get_or ends i 0 - n) first_is in
    let next : suc i ≡ i + 1 = omega arith in
    let change = cut (get_or ends i 0 - get_or (0 ∷ ends) i 0) in
    set-changed_at change prims i p (with_corners corners p) at (ap (λ cs. with_corners cs p) (cut_is ∙ ap (λ n. take n p.corners) far))
    ∙ ap (λ ps. changed_at change ps i) is ∙ sym (shortened_from 0 ends old i lt) ∙ ap (λ n. shortened 0 (take n ends) old) next

-- the ends and the vertices up to one more primitive

pub ends_of-more : (prims : List Primitive) (i end : ℕ) (p : Primitive) → i < length prims → p ≡ get_or prims i p → end ≡ first_vertex_in prims i → ends_of 0 (take (i + 1) prims) ≡ ends_of 0 (take i prims) ++ (end + size_of p) ∷ []
ends_of-more prims i end p lt at is =
    let more = take_more prims i p lt ∙ ap (λ q. take i prims ++ q ∷ []) (sym at) in
    let value : 0 + sum_by size_of (take i prims) + size_of p ≡ end + size_of p = omega arith in
    ap (ends_of 0) more ∙ ends_of-push 0 (take i prims) p ∙ ap (λ n. ends_of 0 (take i prims) ++ n ∷ []) value

pub first_vertex_in-more : (prims : List Primitive) (i end : ℕ) (p : Primitive) → i < length prims → p ≡ get_or prims i p → end ≡ first_vertex_in prims i → end + size_of p ≡ first_vertex_in prims (i + 1)
first_vertex_in-more prims i end p lt at is =
    let size : size_of p ≡ size_of (get_or prims i p) = ap size_of at in
    omega (arith, sum_by_more size_of prims i p lt)

-- a list that was written over the front of another is all there is, where it is as long as what is left
pub take-written : {A : Type 0} (n : ℕ) (xs rest : List A) → length xs ≡ n → take n (xs ++ rest) ≡ xs
take-written n xs rest long = ap (λ k. take k (xs ++ rest)) (sym long) ∙ take-append_seam xs rest

-- what was pushed is taken back by the ends from before
pub undone : (n : ℕ) (ends shown : List ℕ) (front : List (ℕ × Corner)) (old given pushed seen now rest more : List Primitive) → ends ≡ ends_of 0 old → n ≡ length old → length pushed ≡ n → given ≡ old → pushed ≡ longer_prims front given
    → seen ≡ take n (pushed ++ rest) → shown ≡ ends → now ≡ shortened 0 shown seen → take n (now ++ more) ≡ old
undone n ends shown front old given pushed seen now rest more counted size long given_is pushed_is seen_is shown_is now_is =
    let whole : seen ≡ longer_prims front old = seen_is ∙ take-written n pushed rest long ∙ pushed_is ∙ ap (longer_prims front) given_is in
    let back : now ≡ old = now_is ∙ ap (λ es. shortened 0 es seen) (shown_is ∙ counted) ∙ ap (shortened 0 (ends_of 0 old)) whole ∙ shortened-added front old in
    take-written n now more (ap length back ∙ sym size) ∙ back

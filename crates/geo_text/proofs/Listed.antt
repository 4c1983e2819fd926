-- Lists of numbered items, and what a view gives of rows, as the listing wants them.
use Rattle.std.proofs.Common.{◌≡◌, ℕ, zero, suc, ◌+◌, List, [], ◌∷◌, ◌++◌, take, drop, map, append_assoc, append-nil, refl, sym, ap, ◌∙◌, arith, Option, Some, None, Bool}
use Rattle.std.specs.Prelude.{slice_get, slice_index_or, codes}
use Rattle.std.specs.List.{flat_map, enumerate_from}
use Rattle.std.specs.Option.{option_map, option_and_then}
use Rattle.std.proofs.lemmas.Option.{slice_get-map, get_or_from_slice_get}
use Rattle.sop_model.specs.declared.class.Class.{Class}
use Rattle.sop_model.specs.declared.geo.Row.{Row}
use Rattle.sop_model.specs.declared.geo.Head.{Head}
use Rattle.sop_model.specs.declared.geo.Primitive.{Primitive}
use Rattle.sop_model.specs.declared.value.Kind.{Kind}
use Rattle.sop_model.specs.Vertices.{size_of, corners_of, first_vertex_in}
use Rattle.geo_text.specs.Listing.{each_numbered, blank_number, closed_word, corner_text, prim_line, attr_line, class_word}
use Rattle.geo_text.proofs.Writing.{piece_at}

-- ---- one more item of a numbered list
numbered_more : {A : Type 0} (f : ℕ → A → List ℕ) (n : ℕ) (xs : List A) (i : ℕ) (x : A) → slice_get xs i ≡ Some x
    → flat_map (λ m. f m.0 m.1) (enumerate_from n (take (i + 1) xs)) ≡ flat_map (λ m. f m.0 m.1) (enumerate_from n (take i xs)) ++ f (n + i) x
numbered_more f n [] zero x e = cc
numbered_more f n [] (suc i) x e = cc
numbered_more f n (y ∷ xs) zero x e =
    let same : y ≡ x = cc in
    let here : n ≡ n + 0 = omega arith in
    append-nil (f n y) ∙ ap (f n) same ∙ ap (λ k. f k x) here
numbered_more f n (y ∷ xs) (suc i) x e =
    let next : suc i + 1 ≡ suc (i + 1) = omega arith in
    let number : (n + 1) + i ≡ n + suc i = omega arith in
    ap (λ k. flat_map (λ m. f m.0 m.1) (enumerate_from n (take k (y ∷ xs)))) next
    ∙ ap (λ l. f n y ++ l) (numbered_more f (n + 1) xs i x e)
    ∙ sym (append_assoc (f n y) (flat_map (λ m. f m.0 m.1) (enumerate_from (n + 1) (take i xs))) (f ((n + 1) + i) x))
    ∙ ap (λ k. (f n y ++ flat_map (λ m. f m.0 m.1) (enumerate_from (n + 1) (take i xs))) ++ f k x) number

-- a text that grew by one more item
pub item_more : {A : Type 0} (f : ℕ → A → List ℕ) (xs : List A) (i : ℕ) (x : A) (old text longer : List ℕ) → slice_get xs i ≡ Some x
    → longer ≡ text ++ f i x → text ≡ old ++ each_numbered f (take i xs) → longer ≡ old ++ each_numbered f (take (i + 1) xs)
item_more f xs i x old text longer here more so_far =
    let number : i ≡ 0 + i = omega arith in
    more ∙ ap (λ t. t ++ f i x) so_far ∙ append_assoc old (each_numbered f (take i xs)) (f i x)
    ∙ ap (λ k. old ++ (each_numbered f (take i xs) ++ f k x)) number ∙ ap (λ l. old ++ l) (sym (numbered_more f 0 xs i x here))

known : {A B : Type 0} (h : A → B) (o : Option A) (y : B) → option_map h o ≡ Some y → (x : A) × (o ≡ Some x) × (h x ≡ y)
known h None y e = cc
known h (Some x) y e = (x, refl, cc)

-- the same where the new text is told of the item
pub told_more : {A : Type 0} (f : ℕ → A → List ℕ) (xs : List A) (i : ℕ) (old text longer : List ℕ) → option_map (λ x. text ++ f i x) (slice_get xs i) ≡ Some longer
    → text ≡ old ++ each_numbered f (take i xs) → longer ≡ old ++ each_numbered f (take (i + 1) xs)
told_more f xs i old text longer e so_far =
    let (x, here, is) = known (λ x. text ++ f i x) (slice_get xs i) longer e in
    item_more f xs i x old text longer here (sym is) so_far

-- ---- what stands in a row
in_row : {A : Type 0} (part : Row → List A) (d : A) (o : Option Row) (i : ℕ) (x : A) → option_and_then (λ row. slice_get (part row) i) o ≡ Some x → option_map (λ row. slice_index_or (part row) i d) o ≡ Some x
in_row part d None i x e = cc
in_row part d (Some row) i x e = ap Some (get_or_from_slice_get (part row) i x d e)

pub row_read : {A : Type 0} (part : Row → List A) (d : A) (rows : List Row) (i e : ℕ) (x : A) → option_and_then (λ row. slice_get (part row) i) (slice_get rows e) ≡ Some x
    → slice_get (map (λ row. slice_index_or (part row) i d) rows) e ≡ Some x
row_read part d rows i e x is = slice_get-map (λ row. slice_index_or (part row) i d) rows e ∙ in_row part d (slice_get rows e) i x is

-- ---- lines of several parts
two_behind : (a b c d : List ℕ) → ((a ++ b) ++ c) ++ d ≡ a ++ ((b ++ c) ++ d)
two_behind a b c d = simp append_assoc refl

-- a primitive's line
pub listed_prim : (prims : List Primitive) (i first size : ℕ) (closed : Bool) (old opened cornered whole : List ℕ)
    → option_map size_of (slice_get prims i) ≡ Some size → option_map (λ p. p.closed) (slice_get prims i) ≡ Some closed → first ≡ first_vertex_in prims i
    → opened ≡ old ++ (codes "prim" ++ blank_number i ++ closed_word closed)
    → cornered ≡ opened ++ flat_map corner_text (take size (drop first (corners_of prims))) → whole ≡ cornered ++ codes "\n"
    → option_map (λ p. old ++ prim_line i p) (slice_get prims i) ≡ Some whole
listed_prim prims i first size closed old opened cornered whole sized closes at o c w =
    let (p, here, is) = known size_of (slice_get prims i) size sized in
    let shut : p.closed ≡ closed = let e : Some p.closed ≡ Some closed = ap (option_map (λ p. p.closed)) (sym here) ∙ closes in cc in
    let corners : take size (drop first (corners_of prims)) ≡ p.corners = ap (λ n. take n (drop first (corners_of prims))) (sym is) ∙ ap (λ n. take (size_of p) (drop n (corners_of prims))) at ∙ (piece_at prims i p here).corners in
    let text : whole ≡ old ++ prim_line i p =
    w ∙ ap (λ t. t ++ codes "\n") (c ∙ ap (λ t. t ++ flat_map corner_text (take size (drop first (corners_of prims)))) (o ∙ ap (λ b. old ++ (codes "prim" ++ blank_number i ++ closed_word b)) (sym shut)))
    ∙ ap (λ l. ((old ++ (codes "prim" ++ blank_number i ++ closed_word p.closed)) ++ flat_map corner_text l) ++ codes "\n") corners
    ∙ two_behind old (codes "prim" ++ blank_number i ++ closed_word p.closed) (flat_map corner_text p.corners) (codes "\n") in
    ap (option_map (λ p. old ++ prim_line i p)) here ∙ ap Some (sym text)

-- an attribute's line, and the values behind it
attr_behind : (o : Option Head) (class : Class) (name : List ℕ) (kind : Kind) (column old lined whole : List ℕ)
    → option_map (λ h. h.name) o ≡ Some name → option_map (λ h. h.kind) o ≡ Some kind
    → lined ≡ old ++ attr_line class (record { name = name; kind = kind }) → whole ≡ lined ++ column
    → option_map (λ h. old ++ (attr_line class h ++ column)) o ≡ Some whole
attr_behind None class name kind column old lined whole named kinded line w = cc
attr_behind (Some h) class name kind column old lined whole named kinded line w =
    let n : h.name ≡ name = cc in
    let k : h.kind ≡ kind = cc in
    let same : attr_line class h ≡ attr_line class (record { name = name; kind = kind }) =
    ap (λ n. attr_line class (record { name = n; kind = h.kind })) n ∙ ap (λ k. attr_line class (record { name = name; kind = k })) k in
    ap Some (ap (λ l. old ++ (l ++ column)) same ∙ sym (append_assoc old (attr_line class (record { name = name; kind = kind })) column) ∙ ap (λ t. t ++ column) (sym line) ∙ sym w)

pub listed_attr : (heads : List Head) (class : Class) (i : ℕ) (name : List ℕ) (kind : Kind) (column old lined whole : List ℕ)
    → option_map (λ h. h.name) (slice_get heads i) ≡ Some name → option_map (λ h. h.kind) (slice_get heads i) ≡ Some kind
    → lined ≡ old ++ attr_line class (record { name = name; kind = kind }) → whole ≡ lined ++ column
    → option_map (λ h. old ++ (attr_line class h ++ column)) (slice_get heads i) ≡ Some whole
listed_attr heads class i name kind column old lined whole named kinded line w = attr_behind (slice_get heads i) class name kind column old lined whole named kinded line w

-- a group's line
pub listed_group : (groups : List (List ℕ)) (class : Class) (i : ℕ) (name members old named listed whole : List ℕ) → slice_get groups i ≡ Some name
    → named ≡ old ++ (codes "group " ++ class_word class ++ codes " " ++ name) → listed ≡ named ++ members → whole ≡ listed ++ codes "\n"
    → option_map (λ name. old ++ (codes "group " ++ class_word class ++ codes " " ++ name ++ members ++ codes "\n")) (slice_get groups i) ≡ Some whole
listed_group groups class i name members old named listed whole here n l w =
    ap (option_map (λ name. old ++ (codes "group " ++ class_word class ++ codes " " ++ name ++ members ++ codes "\n"))) here
    ∙ ap Some (sym (w ∙ ap (λ t. t ++ codes "\n") (l ∙ ap (λ t. t ++ members) n) ∙ two_behind old (codes "group " ++ class_word class ++ codes " " ++ name) members (codes "\n")))

-- Texts that grow.
use Rattle.std.proofs.Common.{◌≡◌, ℕ, zero, suc, ◌+◌, ◌-◌, ◌<◌, ◌≤◌, List, [], ◌∷◌, ◌++◌, length, map, take, drop, get_or, append_assoc, append-nil, refl, sym, ap, subst, ◌∙◌, arith, Option, Some, None, Bool, true, false, not, inl, inr}
use Rattle.std.specs.Prelude.{codes, decimal, slice_get, if◌then◌else◌, ◌&&◌, ◌==◌}
use Rattle.std.specs.List.{flat_map, items_where_true}
use Rattle.std.specs.Option.{option_map}
use Rattle.std.proofs.lemmas.Bool.{cases_Bool}
use Rattle.std.proofs.lemmas.Bool.Decides.{nat_tests}
use mathlib.Core.Bool.{beq}
use Rattle.std.proofs.lemmas.List.{drop_more, drop_all, take_more, get_or-map, length-map}
use Rattle.std.proofs.lemmas.List.Elements.{All-nil, All-cons, All-append}
use Rattle.std.proofs.lemmas.Option.{slice_get-get_or}
use Rattle.sop_model.specs.declared.class.Class.TheVariants.{Prim}
use Rattle.sop_model.specs.declared.geo.Row.{Row}
use Rattle.sop_model.specs.Geometry.{IsReadable, empty_row}
use Rattle.geo_text.specs.ObjFlags.{flags_at, flags_before}
use Rattle.sop_model.specs.declared.geo.Corner.{Corner}
use Rattle.geo_text.specs.declared.obj_writer.Parts.{Parts}
use Rattle.sop_model.specs.declared.geo.Geo.{Geo}
use Rattle.sop_model.specs.declared.geo.Primitive.{Primitive}
use Rattle.sop_model.specs.Rows.{no_prim}
use Rattle.sop_model.specs.Vertices.{size_of, corners_of, first_vertex_in}
use Rattle.geo_text.specs.ObjText.{parts_text, references_text, closed_parts, parts_of, shape_line, same_flag, same_flags}
use Rattle.geo_text.specs.ObjRange.{IsRealUnder, AreRealUnder}
use Rattle.geo_text.proofs.Writing.{piece_at, list_more}

-- a line of four parts, one behind the other
pub line_written : (old k x y e a b c d : List ℕ) → a ≡ old ++ k → b ≡ a ++ x → c ≡ b ++ y → d ≡ c ++ e → d ≡ old ++ (((k ++ x) ++ y) ++ e)
line_written old k x y e a b c d p q s h =
    h ∙ ap (λ l. l ++ e) (s ∙ ap (λ l. l ++ y) (q ∙ ap (λ l. l ++ x) p)) ∙ ap (λ l. (l ++ y) ++ e) (append_assoc old k x) ∙ ap (λ l. l ++ e) (append_assoc old (k ++ x) y) ∙ append_assoc old ((k ++ x) ++ y) e

-- ---- one row more
pub rows_more : (f : Row → List ℕ) (rows : List Row) (i : ℕ) (old text longer : List ℕ) → i < length rows → longer ≡ text ++ f (get_or rows i empty_row) → text ≡ old ++ flat_map f (take i rows)
    → longer ≡ old ++ flat_map f (take (i + 1) rows)
rows_more f rows i old text longer within = list_more f rows i (get_or rows i empty_row) old text longer (slice_get-get_or rows i empty_row within)

pub real_more : (head : Option ℕ) (rows : List Row) (i : ℕ) → i < length rows → AreRealUnder head (take i rows) → IsRealUnder head (get_or rows i empty_row) → AreRealUnder head (take (i + 1) rows)
real_more head rows i within so_far here =
    let row = get_or rows i empty_row in
    subst (AreRealUnder head) (sym (take_more rows i empty_row within))
    (All-append (IsRealUnder head) (take i rows) (row ∷ []) so_far (All-cons (IsRealUnder head) row [] here (All-nil (IsRealUnder head))))

-- a line of a vector
pub vector_written : (old key vector end a b c : List ℕ) → a ≡ old ++ key → b ≡ a ++ vector → c ≡ b ++ end → c ≡ old ++ (key ++ vector ++ end)
vector_written old key vector end a b c p q r = r ∙ ap (λ l. l ++ end) (q ∙ ap (λ l. l ++ vector) p) ∙ ap (λ l. l ++ end) (append_assoc old key vector) ∙ append_assoc old (key ++ vector) end

-- ---- references
pub drop_at : {A : Type 0} (xs : List A) (i : ℕ) (x : A) → slice_get xs i ≡ Some x → drop i xs ≡ x ∷ drop (i + 1) xs
drop_at [] zero x e = cc
drop_at [] (suc i) x e = cc
drop_at (y ∷ xs) zero x e = let same : y ≡ x = cc in ap (λ z. z ∷ xs) same
drop_at (y ∷ xs) (suc i) x e =
    let next : suc i + 1 ≡ suc (i + 1) = omega arith in
    drop_at xs i x e ∙ ap (λ n. x ∷ drop n (y ∷ xs)) (sym next)

pub mapped_some : {A B : Type 0} (h : A → B) (o : Option A) (y : B) → option_map h o ≡ Some y → (x : A) × (o ≡ Some x) × (h x ≡ y)
mapped_some h None y e = cc
mapped_some h (Some x) y e = (x, refl, cc)

pub reference_more : (parts : Parts) (corners : List Corner) (vertex left more point : ℕ) (text longer whole : List ℕ) → left ≡ suc more → option_map (λ c. c.point) (slice_get corners vertex) ≡ Some point
    → longer ≡ text ++ (codes " " ++ decimal (point + 1) ++ parts_text parts (vertex + 1)) → text ++ references_text parts vertex (take left (drop vertex corners)) ≡ whole
    → longer ++ references_text parts (vertex + 1) (take more (drop (vertex + 1) corners)) ≡ whole
reference_more parts corners vertex left more point text longer whole count at grown so_far =
    let (c, here, is) = mapped_some (λ (c : Corner). c.point) (slice_get corners vertex) point at in
    let rest = references_text parts (vertex + 1) (take more (drop (vertex + 1) corners)) in
    let taken : take left (drop vertex corners) ≡ c ∷ take more (drop (vertex + 1) corners) = ap (λ n. take n (drop vertex corners)) count ∙ ap (take (suc more)) (drop_at corners vertex c here) in
    let one = codes " " ++ decimal (c.point + 1) ++ parts_text parts (vertex + 1) in
    ap (λ l. l ++ rest) (grown ∙ ap (λ n. text ++ (codes " " ++ decimal (n + 1) ++ parts_text parts (vertex + 1))) (sym is)) ∙ append_assoc text one rest
    ∙ ap (λ l. text ++ references_text parts vertex l) (sym taken) ∙ so_far

-- ---- the line of a primitive
pub got : {A : Type 0} (xs : List A) (i : ℕ) (x d : A) → slice_get xs i ≡ Some x → get_or xs i d ≡ x
got [] zero x d e = cc
got [] (suc i) x d e = cc
got (y ∷ xs) zero x d e = cc
got (y ∷ xs) (suc i) x d e = got xs i x d e

pub shape_written : (g : Geo) (i size first : ℕ) (closed : Bool) (parts now : Parts) (old keyword keyed referred whole : List ℕ)
    → option_map size_of (slice_get g.prims i) ≡ Some size → option_map (λ p. p.closed) (slice_get g.prims i) ≡ Some closed → first ≡ first_vertex_in g.prims i
    → parts ≡ closed_parts g → now ≡ record parts { normal = parts.normal && closed }
    → keyword ≡ (if closed then codes "f" else codes "l") → keyed ≡ old ++ keyword
    → referred ≡ keyed ++ references_text now first (take size (drop first (corners_of g.prims))) → whole ≡ referred ++ codes "\n"
    → whole ≡ old ++ shape_line g (first_vertex_in g.prims i) (get_or g.prims i no_prim)
shape_written g i size first closed parts now old keyword keyed referred whole sized closes at are is key k r w =
    let (p, here, long) = mapped_some size_of (slice_get g.prims i) size sized in
    let shut : p.closed ≡ closed = let e : Some p.closed ≡ Some closed = ap (option_map (λ (q : Primitive). q.closed)) (sym here) ∙ closes in cc in
    let found : get_or g.prims i no_prim ≡ p = got g.prims i p no_prim here in
    let before = first_vertex_in g.prims i in
    let corners : take size (drop first (corners_of g.prims)) ≡ p.corners =
    ap (λ n. take n (drop first (corners_of g.prims))) (sym long) ∙ ap (λ n. take (size_of p) (drop n (corners_of g.prims))) at ∙ (piece_at g.prims i p here).corners in
    let same : now ≡ parts_of g p = is ∙ ap (λ (q : Parts). record q { normal = q.normal && closed }) are ∙ ap (λ b. record (closed_parts g) { normal = (closed_parts g).normal && b }) (sym shut) in
    let head : keyword ≡ (if p.closed then codes "f" else codes "l") = key ∙ ap (λ b. if b then codes "f" else codes "l") (sym shut) in
    let references = references_text (parts_of g p) before p.corners in
    let wrote : references_text now first (take size (drop first (corners_of g.prims))) ≡ references =
    ap (λ q. references_text q first (take size (drop first (corners_of g.prims)))) same ∙ ap (λ n. references_text (parts_of g p) n (take size (drop first (corners_of g.prims)))) at
    ∙ ap (references_text (parts_of g p) before) corners in
    w ∙ ap (λ t. t ++ codes "\n") (r ∙ ap (λ l. keyed ++ l) wrote ∙ ap (λ t. t ++ references) (k ∙ ap (λ l. old ++ l) head))
    ∙ ap (λ t. t ++ codes "\n") (append_assoc old (if p.closed then codes "f" else codes "l") references)
    ∙ append_assoc old ((if p.closed then codes "f" else codes "l") ++ references) (codes "\n")
    ∙ ap (λ q. old ++ shape_line g before q) (sym found)

-- ---- flags
no_flag : (names : List (List ℕ)) (i : ℕ) → get_or (map (λ (group : List ℕ). false) names) i false ≡ false
no_flag [] zero = refl
no_flag [] (suc i) = refl
no_flag (x ∷ names) zero = refl
no_flag (x ∷ names) (suc i) = no_flag names i

pub was_none : (g : Geo) (prim group : ℕ) → prim ≡ 0 → false ≡ get_or (flags_before g prim) group false
was_none g prim group zeroth =
    let h : (prim == 0) ≡ true = grind (arith, nat_tests) in
    sym (no_flag g.prim.groups group) ∙ ap (λ b. get_or (flags_at b g (prim - 1)) group false) (sym h)

pub flags_long : (g : Geo) (prim : ℕ) → IsReadable g → prim < length g.prims → length (get_or g.prims prim no_prim).row.flags ≡ length g.prim.groups
flags_long g prim readable h =
    let row = get_or-map (λ (p : Primitive). p.row) g.prims prim no_prim empty_row h in
    let inside : prim < length (map (λ (p : Primitive). p.row) g.prims) = omega (arith, length-map g.prims (λ (p : Primitive). p.row)) in
    ap (λ (r : Row). length r.flags) (sym row) ∙ (readable.sound.rows Prim prim empty_row inside).flags

pub before_long : (g : Geo) (prim : ℕ) → IsReadable g → prim < length g.prims → length (flags_before g prim) ≡ length g.prim.groups
before_long g prim readable h =
    elim (cases_Bool (prim == 0)) [
      | inl first ↦ ap (λ b. length (flags_at b g (prim - 1))) first ∙ length-map g.prim.groups (λ (group : List ℕ). false)
      | inr later ↦ ap (λ b. length (flags_at b g (prim - 1))) later ∙ flags_long g (prim - 1) readable (omega arith)
    ]

pub same_more : (a b : List Bool) (k : ℕ) → k < length a → k < length b → get_or a k false ≡ get_or b k false → same_flags (drop (k + 1) a) (drop (k + 1) b) ≡ same_flags (drop k a) (drop k b)
same_more a b k h i e =
    sym (ap (λ l. same_flags l (drop k b)) (drop_more a k false h) ∙ ap (same_flags (get_or a k false ∷ drop (k + 1) a)) (drop_more b k false i)
    ∙ ap (λ x. same_flag x (get_or b k false) && same_flags (drop (k + 1) a) (drop (k + 1) b)) e ∙ ap (λ x. x && same_flags (drop (k + 1) a) (drop (k + 1) b)) (same_self (get_or b k false)))
  where
    same_self : (b : Bool) → same_flag b b ≡ true
    same_self true = refl
    same_self false = refl

pub same_end : (a b : List Bool) (k : ℕ) → length a ≤ k → length b ≤ k → same_flags (drop k a) (drop k b) ≡ true
same_end a b k h i = ap (λ l. same_flags l (drop k b)) (drop_all k a h) ∙ ap (same_flags []) (drop_all k b i)

-- ---- names
pub names_end : (flags : List Bool) (names : List (List ℕ)) (k : ℕ) (text whole : List ℕ) → length flags ≤ k
    → text ++ flat_map (λ (name : List ℕ). codes " " ++ name) (items_where_true (drop k flags) (drop k names)) ≡ whole → text ≡ whole
names_end flags names k text whole h so_far =
    let w : List ℕ → List ℕ = λ name. codes " " ++ name in
    sym (append-nil text) ∙ ap (λ l. text ++ flat_map w (items_where_true l (drop k names))) (sym (drop_all k flags h)) ∙ so_far

pub same_from : (a b : Bool) → not (beq a b) ≡ false → a ≡ b
same_from true true h = refl
same_from true false h = cc
same_from false true h = cc
same_from false false h = refl

pub groups_written : (old keyed names whole : List ℕ) (keyword middle end : List ℕ) → keyed ≡ old ++ keyword → names ≡ keyed ++ middle → whole ≡ names ++ end → whole ≡ old ++ ((keyword ++ middle) ++ end)
groups_written old keyed names whole keyword middle end k n w =
    w ∙ ap (λ l. l ++ end) (n ∙ ap (λ l. l ++ middle) k ∙ append_assoc old keyword middle) ∙ append_assoc old (keyword ++ middle) end

-- Groups that come to a geometry that is taken.
use Rattle.std.proofs.Common.{◌≡◌, ℕ, ◌+◌, ◌<◌, List, [], ◌∷◌, ◌++◌, length, map, take, drop, set, get_or, false, refl, sym, ap, ◌∙◌, arith, Result, Ok, Err, length-drop}
use Rattle.std.specs.Prelude.{OnOk}
use Rattle.std.specs.declared.alloc.AllocError.{AllocError}
use Rattle.std.proofs.lemmas.List.{length-map, take_more_set, map_more, get_or-drop, drop-set-lt, drop-drop, take_at}
use Rattle.sop_model.specs.declared.geo.Row.{Row}
use Rattle.sop_model.specs.declared.geo.Primitive.{Primitive}
use Rattle.sop_model.specs.Rows.{prims_rows, with_last_flag}
use Rattle.geo_text.specs.declared.taker.Attributes.{Attributes}
use Rattle.geo_text.specs.ObjTaking.{made_of, group_taken, flag_more}

pub each_more : {A : Type 0} (f : A → A) (old now : List A) (i : ℕ) (d x : A) → i < length now → take i now ≡ map f (take i old) → drop i now ≡ drop i old → x ≡ f (get_or now i d)
    → (take (i + 1) (set now i x) ≡ map f (take (i + 1) old)) × (drop (i + 1) (set now i x) ≡ drop (i + 1) old)
each_more f old now i d x h front back is =
    let long = ap length back in
    let inside : i < length old = omega (arith, simp length-drop at long) in
    let at : i ≡ i + 0 = omega arith in
    let here : get_or now i d ≡ get_or old i d =
    ap (λ n. get_or now n d) at ∙ sym (get_or-drop i now 0 d) ∙ ap (λ l. get_or l 0 d) back ∙ get_or-drop i old 0 d ∙ ap (λ n. get_or old n d) (sym at) in
    let less : i < i + 1 = omega arith in (
      take_more_set now i x h ∙ ap (λ l. l ++ x ∷ []) front ∙ ap (λ y. map f (take i old) ++ y ∷ []) (is ∙ ap f here) ∙ sym (map_more f old i d inside),
      drop-set-lt (i + 1) now i x less ∙ sym (drop-drop 1 i now) ∙ ap (drop 1) back ∙ drop-drop 1 i old,
    )

pub rows_more : (prims : List Primitive) → prims_rows prims (map (with_last_flag false) (map (λ p. p.row) prims)) ≡ map flag_more prims
rows_more [] = refl
rows_more (p ∷ prims) = ap (λ l. flag_more p ∷ l) (rows_more prims)

-- a group behind the others
pub group_made : (has : Attributes) (points : List Row) (groups : List (List ℕ)) (name : List ℕ) (prims : List Primitive)
    → made_of has points (groups ++ name ∷ []) (map flag_more prims) ≡ group_taken name (made_of has points groups prims)
group_made has points groups name prims = ap (made_of has points (groups ++ name ∷ [])) (sym (rows_more prims))

pub group_written : (result : Result (Unit {0}) AllocError) (has : Attributes) (points : List Row) (groups longer : List (List ℕ)) (name : List ℕ) (prims old new : List Primitive) (len : ℕ)
    → longer ≡ groups ++ name ∷ [] → old ≡ prims → len ≡ length prims → OnOk result (new ≡ map flag_more old)
    → OnOk result (made_of has points longer (take len (new ++ drop (length new) prims)) ≡ group_taken name (made_of has points groups prims))
group_written (Err e) has points groups longer name prims old new len more same long h = tt
group_written (Ok u) has points groups longer name prims old new len more same long h =
    let all : new ≡ map flag_more prims = h ∙ ap (map flag_more) same in
    let size : length new ≡ len = ap length all ∙ length-map prims flag_more ∙ sym long in
    ap (made_of has points longer) (take_at new (drop (length new) prims) len size ∙ all) ∙ ap (λ g. made_of has points g (map flag_more prims)) more ∙ group_made has points groups name prims

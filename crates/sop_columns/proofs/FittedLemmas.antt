-- Cells that stand for values: they are joined, and the table grows.
use Rattle.std.proofs.Common.{◌≡◌, ℕ, zero, suc, ◌+◌, ◌-◌, ◌*◌, ◌<◌, ◌≤◌, List, [], ◌∷◌, ◌++◌, length, map, take, drop, get_or, refl, ap, sym, ◌∙◌, subst, arith, length-drop}
use Rattle.std.specs.Prelude.{All, Option, Some, None, unwrap_or}
use Rattle.std.proofs.lemmas.List.{append-nil, map-append, map_more, get_or-drop, length-map}
use Rattle.std.proofs.lemmas.List.Elements.{All-nil, All-append, All-push, All-head, All-tail, All-get_or}
use Rattle.std.proofs.Math.Seq.{take-add}
use Rattle.sop_pages.specs.declared.cell.Cell.{Cell}
use Rattle.sop_pages.specs.Cells.{IsPage}
use Rattle.sop_model.specs.declared.value.Kind.{Kind}
use Rattle.sop_model.specs.declared.value.Value.{Value}
use Rattle.sop_model.specs.declared.value.Value.TheVariants as value
use Rattle.sop_model.specs.Values.{kind_of, put, default_of}
use Rattle.sop_cells.specs.Shelves.{joined, IsPaged}
use Rattle.sop_columns.specs.Names.{NameTable, value_of, IsNumbered, Grows}
use Rattle.sop_columns.specs.Fitted.{fitted_to, IsDefault, StandsFor}
use Rattle.sop_columns.proofs.NameLemmas.{value_grows, numbered_grows, values_grow, all_numbered_grow}

pub stands_none : (n : NameTable) → StandsFor n [] []
stands_none n = record { numbered = All-nil (IsNumbered n); values = refl }

pub stands_grow : (m n : NameTable) (cells : List Cell) (vs : List Value) → Grows m n → StandsFor m cells vs → StandsFor n cells vs
stands_grow m n cells vs g s = record { numbered = all_numbered_grow m n cells g s.numbered; values = values_grow m n cells g s.numbered ∙ s.values }

stands_append : (n : NameTable) (a b : List Cell) (vs ws : List Value) → StandsFor n a vs → StandsFor n b ws → StandsFor n (a ++ b) (vs ++ ws)
stands_append n a b vs ws s t = record {
  numbered = All-append (IsNumbered n) a b s.numbered t.numbered;
  values = map-append (value_of n) a b ∙ (λ i. s.values i ++ t.values i);
}

get_or_map : {A B : Type 0} (f : A → B) (xs : List A) (i : ℕ) (d : A) → f (get_or xs i d) ≡ get_or (map f xs) i (f d)
get_or_map f [] i d = refl
get_or_map f (x ∷ xs) zero d = refl
get_or_map f (x ∷ xs) (suc i) d = get_or_map f xs i d

-- one cell more under the kind
module _ (base m n : NameTable) (kind : Kind) (column : List Cell) (start k : ℕ) (cell : Cell) (within : start + k < length column) (at : cell ≡ get_or column (start + k) cell) (numbered : All (IsNumbered base) column) (g : Grows base m) where
  pub cell_numbered : IsNumbered m cell
  cell_numbered = subst (IsNumbered m) (sym at) (All-get_or (IsNumbered m) column (start + k) cell within (all_numbered_grow base m column g numbered))

  base_numbered : IsNumbered base cell
  base_numbered = subst (IsNumbered base) (sym at) (All-get_or (IsNumbered base) column (start + k) cell within numbered)

  there : get_or (drop start (map (value_of base) column)) k (value_of base cell) ≡ value_of base cell
  there = get_or-drop start (map (value_of base) column) k (value_of base cell) ∙ sym (get_or_map (value_of base) column (start + k) cell) ∙ ap (value_of base) (sym at)

  inside : k < length (drop start (map (value_of base) column))
  inside = let e = length-drop start (map (value_of base) column) in let l = length-map column (value_of base) in omega arith

  pub run_more : (cells after : List Cell) (new : Cell) → Grows m n → StandsFor m cells (map (fitted_to kind) (take k (drop start (map (value_of base) column)))) → IsNumbered n new → value_of n new ≡ fitted_to kind (value_of m cell) → after ≡ cells ++ new ∷ []
      → StandsFor n after (map (fitted_to kind) (take (k + 1) (drop start (map (value_of base) column))))
  run_more cells after new h s num is e =
      let t = stands_grow m n cells _ h s in
      let f : value_of n new ≡ fitted_to kind (value_of base cell) = is ∙ ap (fitted_to kind) (value_grows base m cell g base_numbered) in
      record {
        numbered = subst (All (IsNumbered n)) (sym e) (All-push (IsNumbered n) cells new t.numbered num);
        values =
            ap (map (value_of n)) e ∙ map-append (value_of n) cells (new ∷ []) ∙ (λ i. t.values i ++ f i ∷ [])
            ∙ sym (map_more (fitted_to kind) (drop start (map (value_of base) column)) k (value_of base cell) inside ∙ (λ i. map (fitted_to kind) (take k (drop start (map (value_of base) column))) ++ fitted_to kind (there i) ∷ []));
      }

-- a run behind those before
stands_join : (base m n : NameTable) (kind : Kind) (column : List Cell) (a b c : ℕ) (xs ys : List Cell) → All (IsNumbered base) column → Grows base m → Grows m n → c ≡ a + b
    → StandsFor m xs (map (fitted_to kind) (take a (map (value_of base) column))) → StandsFor n ys (map (fitted_to kind) (take b (drop a (map (value_of m) column)))) → StandsFor n (xs ++ ys) (map (fitted_to kind) (take c (map (value_of base) column)))
stands_join base m n kind column a b c xs ys numbered g h e s t =
    let V = map (value_of base) column in
    let u = subst (λ (vs : List Value). StandsFor n ys (map (fitted_to kind) (take b (drop a vs)))) (values_grow base m column g numbered) t in
    subst (StandsFor n (xs ++ ys))
    (sym (map-append (fitted_to kind) (take a V) (take b (drop a V))) ∙ ap (map (fitted_to kind)) (sym (take-add a b V) ∙ ap (λ (k : ℕ). take k V) (sym e)))
    (stands_append n xs ys _ _ (stands_grow m n xs _ h s) u)

-- a page behind others
joined_push : (pages : List (List Cell)) (page : List Cell) → joined (pages ++ page ∷ []) ≡ joined pages ++ page
joined_push [] page = append-nil page
joined_push (p ∷ pages) page = ap (λ r. p ++ r) (joined_push pages page) ∙ assoc p (joined pages) page
  where
    assoc : (xs ys zs : List Cell) → xs ++ (ys ++ zs) ≡ (xs ++ ys) ++ zs
    assoc [] ys zs = refl
    assoc (x ∷ xs) ys zs = ap (λ r. x ∷ r) (assoc xs ys zs)

pub paged_full : (pages : List (List Cell)) → All (λ page. length page ≡ 1024) pages → IsPaged pages
paged_full [] h = tt
paged_full (p ∷ pages) h = let e : length p ≡ 1024 = All-head (λ page. length page ≡ 1024) p pages h in ((omega arith, omega arith), (λ l. e), paged_full pages (All-tail (λ page. length page ≡ 1024) p pages h))

pub paged_push : (pages : List (List Cell)) (page : List Cell) → All (λ page. length page ≡ 1024) pages → IsPage page → IsPaged (pages ++ page ∷ [])
paged_push [] page h is = (is, (λ l. absurd (omega arith)), tt)
paged_push (p ∷ pages) page h is = let e : length p ≡ 1024 = All-head (λ page. length page ≡ 1024) p pages h in ((omega arith, omega arith), (λ l. e), paged_push pages page (All-tail (λ page. length page ≡ 1024) p pages h) is)

-- a page of a run behind the pages before
pub stands_page : (base m n : NameTable) (kind : Kind) (column : List Cell) (a b c : ℕ) (pages after : List (List Cell)) (page : List Cell) → after ≡ pages ++ page ∷ [] → All (IsNumbered base) column → Grows base m → Grows m n → c ≡ a + b
    → StandsFor m (joined pages) (map (fitted_to kind) (take a (map (value_of base) column))) → StandsFor n page (map (fitted_to kind) (take b (drop a (map (value_of m) column)))) → StandsFor n (joined after) (map (fitted_to kind) (take c (map (value_of base) column)))
stands_page base m n kind column a b c pages after page is numbered g h e s t =
    subst (λ (cells : List Cell). StandsFor n cells (map (fitted_to kind) (take c (map (value_of base) column)))) (sym (ap joined is ∙ joined_push pages page))
    (stands_join base m n kind column a b c (joined pages) page numbered g h e s t)

-- a default stays one while the table grows
pub default_grows : (m n : NameTable) (kind : Kind) (cell : Cell) → Grows m n → IsDefault m kind cell → IsDefault n kind cell
default_grows m n kind cell g d = record { numbered = numbered_grows m n cell g d.numbered; value = value_grows m n cell g d.numbered ∙ d.value }

put_own : (v : Value) → put (kind_of v) v ≡ Some v
put_own (value.Int n) = refl
put_own (value.Real x) = refl
put_own (value.Vector v) = refl
put_own (value.Str text) = refl
put_own (value.Ints list) = refl
put_own (value.Reals list) = refl
put_own (value.Vectors list) = refl
put_own (value.Strs list) = refl

-- a value of the kind stays
pub fitted_own : (kind : Kind) (v : Value) → kind_of v ≡ kind → v ≡ fitted_to kind v
fitted_own kind v e = ap (λ (o : Option Value). unwrap_or o (default_of kind)) (sym (ap (λ (k : Kind). put k v) (sym e) ∙ put_own v))

-- a value that can't be put there gives way to the default
pub fitted_else : (kind : Kind) (v d : Value) → put kind v ≡ None → d ≡ default_of kind → d ≡ fitted_to kind v
fitted_else kind v d e is = is ∙ ap (λ (o : Option Value). unwrap_or o (default_of kind)) (sym e)

-- Attributes deleted from the last one on: at none, one more, all, and a stop.
use Rattle.std.proofs.Common.{◌≡◌, ℕ, zero, suc, ◌+◌, ◌<◌, ◌≤◌, ◌||◌, Bool, true, false, not, cond, lt-ltb, List, [], ◌∷◌, ◌++◌, length, map, drop, remove, replicate, refl, sym, ap, ◌∙◌, subst, arith, inl, inr}
use Rattle.std.specs.Prelude.{Some, None, Ok, Err, All, option_map, position, slice_get, nat_lt, if◌then◌else◌}
use Rattle.std.specs.List.{list_any, position_or_len, items_where_true}
use Rattle.std.specs.Str.{bytes_eq}
use Rattle.std.proofs.lemmas.Bool.{cases_Bool, false≢true, and_parts}
use Rattle.std.proofs.lemmas.List.{length-map}
use Rattle.std.proofs.lemmas.List.Elements.{All-head, All-tail}
use Rattle.sop_model.specs.declared.class.Class.{Class}
use Rattle.sop_model.specs.declared.class.Class.TheVariants.{Detail, Prim, Point, Vertex}
use Rattle.sop_model.specs.declared.geo.Geo.{Geo}
use Rattle.sop_model.specs.declared.geo.Row.{Row}
use Rattle.sop_model.specs.declared.geo.Head.{Head}
use Rattle.sop_model.specs.declared.geo.HeadSet.{HeadSet}
use Rattle.sop_model.specs.declared.fault.CookStop.{CookStop}
use Rattle.sop_model.specs.declared.fault.CookStop.TheVariants as stop
use Rattle.sop_model.specs.declared.value.Value.{Value}
use Rattle.sop_model.specs.Names.{are_distinct}
use Rattle.sop_model.specs.Values.{kind_of}
use Rattle.sop_model.specs.Geometry.{heads_of, rows_of, count_of, IsRowOf, IsSound}
use Rattle.sop_model.specs.Rows.{without_value, without_head, with_rows, with_heads, with_class, head_named, attr_deleted}
use Rattle.sop_rows.proofs.ClassRows.{heads_of-with_class, rows_of-with_class}
use Rattle.sop_rows.proofs.FirstLemmas.{bytes_same}
use Rattle.sop_vault.specs.Keyed.{at}
use Rattle.sop_vault.specs.Vaults.{VaultMap, Changed}
use Rattle.sop_basic.specs.Making.{Makes}
use Rattle.sop_basic.specs.AttribDelete.{stays, staying, heads_left, values_left, attrs_left}
use Rattle.sop_basic.proofs.MakingLemmas.{changed_then, touched_changed, touched_then, same_there, made_at_once}
use Rattle.sop_basic.proofs.RowsLemmas.{with_rows_twice, with_rows_own}

-- ---- items that are left
-- the first i stay, and of the others those that are to
abbrev pub left_from : ℕ → List Bool → List Bool
left_from i stay = replicate i true ++ drop i stay

module _ {X : Type 0} where
  all_left : (n : ℕ) (more : List Bool) (xs : List X) → length xs ≤ n → items_where_true (replicate n true ++ more) xs ≡ xs
  all_left zero [] [] few = refl
  all_left zero (b ∷ more) [] few = refl
  all_left zero more (x ∷ xs) few = absurd (omega (arith, few))
  all_left (suc n) more [] few = refl
  all_left (suc n) more (x ∷ xs) few = ap (λ ys. x ∷ ys) (all_left n more xs (omega (arith, few)))

  one_gone : (i : ℕ) (more : List Bool) (xs : List X) → remove (items_where_true (replicate (suc i) true ++ more) xs) i ≡ items_where_true (replicate i true ++ false ∷ more) xs
  one_gone zero more [] = refl
  one_gone zero more (x ∷ xs) = refl
  one_gone (suc i) more [] = refl
  one_gone (suc i) more (x ∷ xs) = ap (λ ys. x ∷ ys) (one_gone i more xs)

  still_at : (i : ℕ) (more : List Bool) (xs : List X) (x : X) → slice_get xs i ≡ Some x → slice_get (items_where_true (replicate (suc i) true ++ more) xs) i ≡ Some x
  still_at i more [] x is = absurd (cc)
  still_at zero more (y ∷ xs) x is = is
  still_at (suc i) more (y ∷ xs) x is = still_at i more xs x is

  pub item_at : (xs : List X) (i : ℕ) → i < length xs → (x : X) × (slice_get xs i ≡ Some x)
  item_at [] i lt = absurd (omega (arith, lt))
  item_at (x ∷ xs) zero lt = (x, refl)
  item_at (x ∷ xs) (suc i) lt = item_at xs i (omega (arith, lt))

  has_at : (xs : List X) (i : ℕ) (x : X) → slice_get xs i ≡ Some x → i < length xs
  has_at [] i x is = absurd (cc)
  has_at (y ∷ xs) zero x is = omega arith
  has_at (y ∷ xs) (suc i) x is = let rest = has_at xs i x is in omega (arith, rest)

  cut_map : (f : X → Bool) (xs : List X) (i : ℕ) (x : X) → slice_get xs i ≡ Some x → drop i (map f xs) ≡ f x ∷ drop (suc i) (map f xs)
  cut_map f [] i x is = absurd (cc)
  cut_map f (y ∷ xs) zero x is = let same : y ≡ x = cc in ap (λ z. f z ∷ map f xs) same
  cut_map f (y ∷ xs) (suc i) x is = cut_map f xs i x is

stays_more : (i : ℕ) (more : List Bool) → replicate i true ++ (true ∷ more) ≡ replicate (suc i) true ++ more
stays_more zero more = refl
stays_more (suc i) more = ap (λ bs. true ∷ bs) (stays_more i more)

-- ---- an attribute stands where its name is found first, since names are distinct
names_it : (heads : List Head) (i : ℕ) (h : Head) (name : List ℕ) → slice_get heads i ≡ Some h → bytes_eq name h.name ≡ true → list_any (bytes_eq name) (map (λ k. k.name) heads) ≡ true
names_it [] i h name is hit = absurd (cc)
names_it (k ∷ heads) zero h name is hit =
    let same : k ≡ h = cc in
    by_first (bytes_eq name k.name) (list_any (bytes_eq name) (map (λ k. k.name) heads)) (ap (λ (x : Head). bytes_eq name x.name) same ∙ hit)
  where
    by_first : (a b : Bool) → a ≡ true → (a || b) ≡ true
    by_first true b e = refl
    by_first false b e = absurd (false≢true e)
names_it (k ∷ heads) (suc i) h name is hit = by_second (bytes_eq name k.name) (list_any (bytes_eq name) (map (λ k. k.name) heads)) (names_it heads i h name is hit)
  where
    by_second : (a b : Bool) → b ≡ true → (a || b) ≡ true
    by_second true b e = refl
    by_second false b e = e

first_at : (heads : List Head) (i : ℕ) (h : Head) → are_distinct (map (λ k. k.name) heads) ≡ true → slice_get heads i ≡ Some h → position_or_len (λ k. bytes_eq k.name h.name) heads ≡ i
first_at [] i h distinct is = absurd (cc)
first_at (k ∷ heads) zero h distinct is =
    let same : k ≡ h = cc in
    ap (λ (b : Bool). cond (not b) (1 + position_or_len (λ k. bytes_eq k.name h.name) heads) 0) (ap (λ (x : Head). bytes_eq x.name h.name) same ∙ bytes_same h.name)
first_at (k ∷ heads) (suc i) h distinct is =
    let both = and_parts (not (list_any (bytes_eq k.name) (map (λ k. k.name) heads))) (are_distinct (map (λ k. k.name) heads)) distinct in
    elim (cases_Bool (bytes_eq k.name h.name)) [
      | inl hit ↦ absurd (false≢true (sym (ap not (names_it heads i h k.name is hit)) ∙ both.0))
      | inr miss ↦
          let rest = first_at heads i h both.1 is in
          let next : 1 + i ≡ suc i = omega arith in
          ap (λ (b : Bool). cond (not b) (1 + position_or_len (λ k. bytes_eq k.name h.name) heads) 0) miss ∙ ap (λ n. 1 + n) rest ∙ next
    ]

named_at : (heads : List Head) (i : ℕ) (h : Head) → are_distinct (map (λ k. k.name) heads) ≡ true → slice_get heads i ≡ Some h → position (λ k. bytes_eq k.name h.name) heads ≡ Some i
named_at heads i h distinct is =
    let lt = has_at heads i h is in
    ap (λ n. cond (nat_lt n (length heads)) (Some n) None) (first_at heads i h distinct is) ∙ ap (λ (b : Bool). cond b (Some i) None) (lt-ltb i (length heads) lt)

-- an attribute as a view tells it: it stays, or its deletion by name is one by number
module _ (g : Geo) (class : Class) (words : List (List ℕ)) (i : ℕ) (h : Head) (name : List ℕ) (here : slice_get (heads_of g class).heads i ≡ Some h) (named : option_map (λ k. k.name) (slice_get (heads_of g class).heads i) ≡ Some name) where
  name_is : h.name ≡ name
  name_is = let e : Some h.name ≡ Some name = sym (ap (option_map (λ (k : Head). k.name)) here) ∙ named in cc

  pub kept_at : stays class words name ≡ true → (if stays class words h.name then g else attr_deleted g class i) ≡ g
  kept_at keeps = ap (λ b. if b then g else attr_deleted g class i) (ap (stays class words) name_is ∙ keeps)

  pub deleted_at : IsSound g → stays class words name ≡ false → (P : Geo → Type 0) → ((k : ℕ) → head_named g class name ≡ Some k → P (attr_deleted g class k)) → P (if stays class words h.name then g else attr_deleted g class i)
  deleted_at sound goes P deleted =
      let found : head_named g class name ≡ Some i = subst (λ n. head_named g class n ≡ Some i) name_is (named_at (heads_of g class).heads i h (sound.named class).distinct_heads here) in
      subst P (sym (ap (λ b. if b then g else attr_deleted g class i) (ap (stays class words) name_is ∙ goes))) (deleted i found)

-- ---- rows with the values that are left
rows_all_left : (set : HeadSet) (n : ℕ) (more : List Bool) (rows : List Row) → length set.heads ≤ n → All (IsRowOf set) rows → map (values_left (replicate n true ++ more)) rows ≡ rows
rows_all_left set n more [] few all = refl
rows_all_left set n more (row ∷ rows) few all =
    let is = All-head (IsRowOf set) row rows all in
    let long : length row.values ≡ length set.heads = sym (length-map row.values kind_of) ∙ ap (λ ks. length ks) is.kinds ∙ length-map set.heads (λ h. h.kind) in
    ap (λ (vs : List Value). record row { values = vs } ∷ map (values_left (replicate n true ++ more)) rows) (all_left n more row.values (omega (arith, long, few)))
    ∙ ap (λ rs. row ∷ rs) (rows_all_left set n more rows few (All-tail (IsRowOf set) row rows all))

rows_one_gone : (i : ℕ) (more : List Bool) (rows : List Row) → map (without_value i) (map (values_left (replicate (suc i) true ++ more)) rows) ≡ map (values_left (replicate i true ++ false ∷ more)) rows
rows_one_gone i more [] = refl
rows_one_gone i more (row ∷ rows) =
    ap (λ (vs : List Value). record row { values = vs } ∷ map (without_value i) (map (values_left (replicate (suc i) true ++ more)) rows)) (one_gone i more row.values)
    ∙ ap (λ rs. values_left (replicate i true ++ false ∷ more) row ∷ rs) (rows_one_gone i more rows)

-- ---- the geometry with other heads and rows of a class, twice, and its own again
heads_own : (g : Geo) (class : Class) → with_heads g class (heads_of g class) ≡ g
heads_own g Detail = refl
heads_own g Prim = refl
heads_own g Point = refl
heads_own g Vertex = refl

rows_behind_heads : (g : Geo) (class : Class) (a b : HeadSet) (rows : List Row) → with_heads (with_rows (with_heads g class a) class rows) class b ≡ with_heads (with_rows g class rows) class b
rows_behind_heads g Detail a b rows = refl
rows_behind_heads g Prim a b rows = refl
rows_behind_heads g Point a b rows = refl
rows_behind_heads g Vertex a b rows = refl

class_twice : (g : Geo) (class : Class) (a b : HeadSet) (rows more : List Row) → length more ≡ count_of g class → with_class (with_class g class a rows) class b more ≡ with_class g class b more
class_twice g class a b rows more many =
    rows_behind_heads (with_rows g class rows) class a b more ∙ ap (λ (x : Geo). with_heads x class b) (with_rows_twice g class rows more many)

module _ (g : Geo) (class : Class) where
  left_all : (n : ℕ) (more : List Bool) → IsSound g → length (heads_of g class).heads ≤ n → attrs_left g class (replicate n true ++ more) ≡ g
  left_all n more sound few =
      ap (λ (hs : List Head). with_class g class (record (heads_of g class) { heads = hs }) (map (values_left (replicate n true ++ more)) (rows_of g class))) (all_left n more (heads_of g class).heads few)
      ∙ ap (λ rows. with_class g class (heads_of g class) rows) (rows_all_left (heads_of g class) n more (rows_of g class) few (sound.rows class))
      ∙ ap (λ (x : Geo). with_heads x class (heads_of g class)) (with_rows_own g class) ∙ heads_own g class

  abbrev left_rows : List Bool → List Row
  left_rows stay = map (values_left stay) (rows_of g class)

  left_heads_are : (stay : List Bool) → heads_of (attrs_left g class stay) class ≡ heads_left stay (heads_of g class)
  left_heads_are stay = heads_of-with_class g class (heads_left stay (heads_of g class)) (left_rows stay)

  left_one_gone : (i : ℕ) (more : List Bool) → attr_deleted (attrs_left g class (replicate (suc i) true ++ more)) class i ≡ attrs_left g class (replicate i true ++ false ∷ more)
  left_one_gone i more =
      let before = replicate (suc i) true ++ more in
      let after = replicate i true ++ false ∷ more in
      let many = length-map (rows_of g class) (values_left before) in
      let long = length-map (rows_of g class) (values_left after) in
      ap (λ (set : HeadSet). with_class (attrs_left g class before) class (without_head set i) (map (without_value i) (rows_of (attrs_left g class before) class))) (left_heads_are before)
      ∙ ap (λ rows. with_class (attrs_left g class before) class (without_head (heads_left before (heads_of g class)) i) (map (without_value i) rows)) (rows_of-with_class g class (heads_left before (heads_of g class)) (left_rows before) many)
      ∙ ap (λ rows. with_class (attrs_left g class before) class (without_head (heads_left before (heads_of g class)) i) rows) (rows_one_gone i more (rows_of g class))
      ∙ ap (λ (hs : List Head). with_class (attrs_left g class before) class (record (heads_of g class) { heads = hs }) (left_rows after)) (one_gone i more (heads_of g class).heads)
      ∙ class_twice g class (heads_left before (heads_of g class)) (heads_left after (heads_of g class)) (left_rows before) (left_rows after) long

-- ---- the loop: the attributes from the number i on that don't stay are deleted
module _ (g : Geo) (class : Class) (words : List (List ℕ)) where
  abbrev pub swept : ℕ → Geo
  swept i = attrs_left g class (left_from i (staying g class words))

  pub sweep_none : (v : VaultMap) (key i : ℕ) → at v.geos key ≡ Some g → IsSound g → i ≡ length (heads_of g class).heads → Changed v v key (Some (swept i))
  sweep_none v key i there sound all =
      let whole = left_all g class i (drop i (staying g class words)) sound (omega (arith, all)) in
      let (h, is, ch) = made_at_once v key g there in
      subst (λ (x : Geo). Changed v v key (Some x)) (sym whole) (record { geos = record { here = there; others = λ other apart. refl }; held = λ other apart. refl; names = ch.names })

  module _ (old now : VaultMap) (key i n : ℕ) (next : n ≡ suc i) (begun : Changed old now key (Some (swept n))) where
    state : Changed old now key (Some (swept (suc i)))
    state = subst (λ k. Changed old now key (Some (swept k))) next begun

    module _ (lt : i < length (heads_of g class).heads) where
      head_here : (h : Head) × (slice_get (heads_of g class).heads i ≡ Some h)
      head_here = item_at (heads_of g class).heads i lt

      there_now : slice_get (heads_of (swept (suc i)) class).heads i ≡ Some head_here.0
      there_now =
          ap (λ (set : HeadSet). slice_get set.heads i) (left_heads_are g class (left_from (suc i) (staying g class words)))
          ∙ still_at i (drop (suc i) (staying g class words)) (heads_of g class).heads head_here.0 head_here.1

      pub sweep_there : (x : Geo) → at now.geos key ≡ Some x → i < length (heads_of x class).heads
      sweep_there x there =
          let same = same_there (at now.geos key) (swept (suc i)) x state.geos.here there in
          subst (λ (x : Geo). i < length (heads_of x class).heads) same (has_at (heads_of (swept (suc i)) class).heads i head_here.0 there_now)

      cut : drop i (staying g class words) ≡ stays class words head_here.0.name ∷ drop (suc i) (staying g class words)
      cut = cut_map (λ head. stays class words head.name) (heads_of g class).heads i head_here.0 head_here.1

      step_is : (b : Bool) → (if b then swept (suc i) else attr_deleted (swept (suc i)) class i) ≡ attrs_left g class (replicate i true ++ b ∷ drop (suc i) (staying g class words))
      step_is true = ap (attrs_left g class) (sym (stays_more i (drop (suc i) (staying g class words))))
      step_is false = left_one_gone g class i (drop (suc i) (staying g class words))

      whole_step : (if stays class words head_here.0.name then swept (suc i) else attr_deleted (swept (suc i)) class i) ≡ swept i
      whole_step = step_is (stays class words head_here.0.name) ∙ ap (λ stay. attrs_left g class (replicate i true ++ stay)) (sym cut)

      pub sweep_more : (new : VaultMap) → ((x : Geo) (h : Head) → at now.geos key ≡ Some x → slice_get (heads_of x class).heads i ≡ Some h → Makes now new key (Ok (if stays class words h.name then x else attr_deleted x class i)) (Ok tt))
          → Changed old new key (Some (swept i))
      sweep_more new step =
          let (x, made, ch) = step (swept (suc i)) head_here.0 state.geos.here there_now in
          let same : x ≡ swept i = (let e : (if stays class words head_here.0.name then swept (suc i) else attr_deleted (swept (suc i)) class i) ≡ x = cc in sym e) ∙ whole_step in
          changed_then old now new key (Some (swept (suc i))) (Some (swept i)) state (subst (λ (x : Geo). Changed now new key (Some x)) same ch)

      pub sweep_stopped : (new : VaultMap) (s : CookStop) (outcome : Geo) → ((x : Geo) (h : Head) → at now.geos key ≡ Some x → slice_get (heads_of x class).heads i ≡ Some h → Makes now new key (Ok (if stays class words h.name then x else attr_deleted x class i)) (Err s))
          → Makes old new key (Ok outcome) (Err s)
      sweep_stopped new (stop.Fault f) outcome step = let (made, ended) = step (swept (suc i)) head_here.0 state.geos.here there_now in absurd (cc)
      sweep_stopped new stop.Memory outcome step = touched_then old now new key (touched_changed old now key (swept (suc i)) state) (step (swept (suc i)) head_here.0 state.geos.here there_now)

-- Names only grow, so what a cell stands for stays.
use Rattle.std.proofs.Common.{set, ◌≡◌, ℕ, List, [], ◌∷◌, ◌++◌, length, map, refl, ap, sym, ◌∙◌, subst, arith, length-append}
use Rattle.std.specs.Prelude.{All, slice_index_or}
use Rattle.std.proofs.lemmas.List.{append-nil, map-set, get_or_append_left}
use Rattle.std.proofs.lemmas.List.Elements.{All-nil, All-cons, All-head, All-tail, All-set}
use Rattle.sop_pages.specs.declared.cell.Cell.{Cell}
use Rattle.sop_pages.specs.declared.cell.Cell.TheVariants as cell
use Rattle.sop_model.specs.declared.value.Value.{Value}
use Rattle.sop_model.specs.declared.value.Value.TheVariants as value
use Rattle.sop_columns.specs.Names.{NameTable, value_of, IsNumbered, Grows}

pub grows_none : (n : NameTable) → Grows n n
grows_none n = record { more_texts = []; texts = sym (append-nil n.texts); more_lists = []; lists = sym (append-nil n.lists) }

pub grows_same : (old new : NameTable) → new ≡ old → Grows old new
grows_same old new e = subst (λ (n : NameTable). Grows old n) (sym e) (grows_none old)

pub grows_then : (a b c : NameTable) → Grows a b → Grows b c → Grows a c
grows_then a b c g h = record {
  more_texts = g.more_texts ++ h.more_texts;
  texts = h.texts ∙ ap (λ (xs : List (List ℕ)). xs ++ h.more_texts) g.texts ∙ assoc a.texts g.more_texts h.more_texts;
  more_lists = g.more_lists ++ h.more_lists;
  lists = h.lists ∙ ap (λ (xs : List Value). xs ++ h.more_lists) g.lists ∙ assoc a.lists g.more_lists h.more_lists;
}
  where
    assoc : {X : Type 0} (xs ys zs : List X) → (xs ++ ys) ++ zs ≡ xs ++ (ys ++ zs)
    assoc [] ys zs = refl
    assoc (x ∷ xs) ys zs = ap (λ r. x ∷ r) (assoc xs ys zs)

-- a text is put behind the others
pub grows_text : (old : NameTable) (text : List ℕ) → Grows old (record { texts = old.texts ++ text ∷ []; lists = old.lists })
grows_text old text = record { more_texts = text ∷ []; texts = refl; more_lists = []; lists = sym (append-nil old.lists) }

-- a list is put behind the others
pub grows_list : (old : NameTable) (v : Value) → Grows old (record { texts = old.texts; lists = old.lists ++ v ∷ [] })
grows_list old v = record { more_texts = []; texts = sym (append-nil old.texts); more_lists = v ∷ []; lists = refl }

pub value_grows : (old new : NameTable) (c : Cell) → Grows old new → IsNumbered old c → value_of new c ≡ value_of old c
value_grows old new (cell.Int i) g h = refl
value_grows old new (cell.Real x) g h = refl
value_grows old new (cell.Vector v) g h = refl
value_grows old new (cell.Name k) g h = ap value.Str (ap (λ (xs : List (List ℕ)). slice_index_or xs k []) g.texts ∙ get_or_append_left old.texts g.more_texts [] k h)
value_grows old new (cell.Many k) g h = ap (λ (xs : List Value). slice_index_or xs k (value.Ints [])) g.lists ∙ get_or_append_left old.lists g.more_lists (value.Ints []) k h

pub numbered_grows : (old new : NameTable) (c : Cell) → Grows old new → IsNumbered old c → IsNumbered new c
numbered_grows old new (cell.Int i) g h = tt
numbered_grows old new (cell.Real x) g h = tt
numbered_grows old new (cell.Vector v) g h = tt
numbered_grows old new (cell.Name k) g h = let e = ap (λ (xs : List (List ℕ)). length xs) g.texts in let a = length-append old.texts g.more_texts in omega arith
numbered_grows old new (cell.Many k) g h = let e = ap (λ (xs : List Value). length xs) g.lists in let a = length-append old.lists g.more_lists in omega arith

-- the values of cells stay
pub values_grow : (old new : NameTable) (cells : List Cell) → Grows old new → All (IsNumbered old) cells → map (value_of new) cells ≡ map (value_of old) cells
values_grow old new [] g h = refl
values_grow old new (c ∷ cells) g h =
    let here = value_grows old new c g (All-head (IsNumbered old) c cells h) in
    let rest = values_grow old new cells g (All-tail (IsNumbered old) c cells h) in
    λ i. here i ∷ rest i

pub all_numbered_grow : (old new : NameTable) (cells : List Cell) → Grows old new → All (IsNumbered old) cells → All (IsNumbered new) cells
all_numbered_grow old new [] g h = All-nil (IsNumbered new)
all_numbered_grow old new (c ∷ cells) g h =
    All-cons (IsNumbered new) c cells (numbered_grows old new c g (All-head (IsNumbered old) c cells h)) (all_numbered_grow old new cells g (All-tail (IsNumbered old) c cells h))

-- a cell that stands for a value is written
module _ (old new : NameTable) (cells after : List Cell) (i : ℕ) (c : Cell) (is : after ≡ set cells i c) (g : Grows old new) (h : All (IsNumbered old) cells) where
  pub values_set : (v : Value) → value_of new c ≡ v → map (value_of new) after ≡ set (map (value_of old) cells) i v
  values_set v e = ap (map (value_of new)) is ∙ map-set (value_of new) cells i c ∙ (λ k. set (values_grow old new cells g h k) i (e k))

  pub numbered_set : IsNumbered new c → All (IsNumbered new) after
  numbered_set n = subst (All (IsNumbered new)) (sym is) (All-set (IsNumbered new) cells i c n (all_numbered_grow old new cells g h))

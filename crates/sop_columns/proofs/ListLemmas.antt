-- Texts and lists that have numbers: the same value has one number.
use Rattle.std.proofs.Common.{◌≡◌, ℕ, ◌<◌, List, [], ◌∷◌, ◌++◌, Bool, true, false, true≢false, cond, ◌&&◌, length, map, get_or, position, refl, ap, sym, ◌∙◌, subst, arith}
use Rattle.std.specs.Prelude.{Option, Some, None, Decides, bytes_eq, slice_get, slice_index_or, option_map}
use Rattle.std.specs.List.{list_any}
use Rattle.std.specs.Cmp.Lexicographic.{bytes_decides, pointwise, pointwise_decides}
use Rattle.std.specs.Cmp.Rules.{signed_items}
use Rattle.std.specs.Ordering.{int_eq}
use Rattle.std.specs.Cmp.{signed_Decides}
use Rattle.sop_fixed.specs.declared.vec3.Vec3.{Vec3}
use Rattle.sop_fixed.specs.contracts.vec3.Vec3PartialEq.TheImpl as vec3
use Rattle.std.proofs.lemmas.List.{map-append, length-map, get_or-map}
use Rattle.std.proofs.lemmas.List.Folds.{list_any_at}
use Rattle.std.proofs.lemmas.List.Quantifiers.{position-Some}
use Rattle.std.proofs.lemmas.Option.{get_or_from_slice_get, slice_get-map}
use Rattle.indexmap.specs.IndexSet.{insert_key}
use Rattle.sop_pages.specs.declared.cell.Cell.{Cell}
use Rattle.sop_pages.specs.declared.cell.Cell.TheVariants as cell
use Rattle.sop_model.specs.declared.value.Value.{Value}
use Rattle.sop_model.specs.declared.value.Value.TheVariants as value
use Rattle.sop_columns.specs.declared.names.Listed.{Listed}
use Rattle.sop_columns.specs.declared.names.Listed.TheVariants as listed
use Rattle.sop_columns.specs.contracts.names.ListedPartialEq.TheImpl as the_eq
use Rattle.sop_columns.specs.Lists.{value_listed}
use Rattle.sop_columns.specs.Names.{NameTable, value_of, IsNumbered, Grows, IsThere}
use Rattle.sop_columns.proofs.NameLemmas.{grows_same, grows_text, grows_list}

abbrev listed_of : Value → Option Listed
listed_of (value.Ints list) = Some (listed.Ints list)
listed_of (value.Reals list) = Some (listed.Reals list)
listed_of (value.Vectors list) = Some (listed.Vectors list)
listed_of (value.Strs list) = Some (listed.Strs list)
listed_of _ = None

back : (a : Listed) → listed_of (value_listed a) ≡ Some a
back (listed.Ints list) = refl
back (listed.Reals list) = refl
back (listed.Vectors list) = refl
back (listed.Strs list) = refl

one_list : (a b : Listed) → value_listed a ≡ value_listed b → a ≡ b
one_list a b e = let s : Some a ≡ Some b = sym (back a) ∙ ap listed_of e ∙ back b in cc

both_true : (s t : Bool) → (s && t) ≡ true → (s ≡ true) × (t ≡ true)
both_true true t e = (refl, e)
both_true false t e = absurd (true≢false (sym e))

vector_same : (v w : Vec3) → Decides (vec3.ghosts.eq v w) (v ≡ w)
vector_same v w = (
  λ e. let x = both_true (int_eq v.x w.x) (int_eq v.y w.y && int_eq v.z w.z) e in let y = both_true (int_eq v.y w.y) (int_eq v.z w.z) x.1 in
      let a = (signed_Decides v.x w.x).0 x.0 in let b = (signed_Decides v.y w.y).0 y.0 in let c = (signed_Decides v.z w.z).0 y.1 in
      λ i. record { x = a i; y = b i; z = c i },
  λ e. subst (λ (u : Vec3). vec3.ghosts.eq v u ≡ true) e (λ i. (signed_Decides v.x v.x).1 refl i && ((signed_Decides v.y v.y).1 refl i && (signed_Decides v.z v.z).1 refl i)),
)

vectors_same : (xs ys : List Vec3) → Decides (pointwise vec3.ghosts.eq xs ys) (xs ≡ ys)
vectors_same = pointwise_decides vector_same

texts_same : (xs ys : List (List ℕ)) → Decides (pointwise bytes_eq xs ys) (xs ≡ ys)
texts_same = pointwise_decides bytes_decides

-- what the test of keys says
same : (a b : Listed) → the_eq.ghosts.eq a b ≡ true → a ≡ b
same (listed.Ints x) (listed.Ints y) e = let d = signed_items x y in ap listed.Ints (d.0 e)
same (listed.Ints x) (listed.Reals y) e = absurd (true≢false (sym e))
same (listed.Ints x) (listed.Vectors y) e = absurd (true≢false (sym e))
same (listed.Ints x) (listed.Strs y) e = absurd (true≢false (sym e))
same (listed.Reals x) (listed.Ints y) e = absurd (true≢false (sym e))
same (listed.Reals x) (listed.Reals y) e = let d = signed_items x y in ap listed.Reals (d.0 e)
same (listed.Reals x) (listed.Vectors y) e = absurd (true≢false (sym e))
same (listed.Reals x) (listed.Strs y) e = absurd (true≢false (sym e))
same (listed.Vectors x) (listed.Ints y) e = absurd (true≢false (sym e))
same (listed.Vectors x) (listed.Reals y) e = absurd (true≢false (sym e))
same (listed.Vectors x) (listed.Vectors y) e = let d = vectors_same x y in ap listed.Vectors (d.0 e)
same (listed.Vectors x) (listed.Strs y) e = absurd (true≢false (sym e))
same (listed.Strs x) (listed.Ints y) e = absurd (true≢false (sym e))
same (listed.Strs x) (listed.Reals y) e = absurd (true≢false (sym e))
same (listed.Strs x) (listed.Vectors y) e = absurd (true≢false (sym e))
same (listed.Strs x) (listed.Strs y) e = let d = texts_same x y in ap listed.Strs (d.0 e)

itself : (a : Listed) → the_eq.ghosts.eq a a ≡ true
itself (listed.Ints x) = let d = signed_items x x in d.1 refl
itself (listed.Reals x) = let d = signed_items x x in d.1 refl
itself (listed.Vectors x) = let d = vectors_same x x in d.1 refl
itself (listed.Strs x) = let d = texts_same x x in d.1 refl

-- the table of these keys
abbrev pub table : List (List ℕ) → List Listed → NameTable
table texts lists = record { texts = texts; lists = map value_listed lists }

numbered_list : (lists : List Listed) (k : ℕ) → k < length (map value_listed lists) → slice_index_or (map value_listed lists) k (value.Ints []) ≡ value_listed (get_or lists k (listed.Ints []))
numbered_list lists k h = get_or-map value_listed lists k (listed.Ints []) (value.Ints []) (let e = length-map lists value_listed in omega arith)

-- a text that a cell stands for is among the keys
text_in : (texts : List (List ℕ)) (lists : List Listed) (text : List ℕ) (c : Cell) → IsNumbered (table texts lists) c → value_of (table texts lists) c ≡ value.Str text → list_any (bytes_eq text) texts ≡ true
text_in texts lists text (cell.Int i) h e = absurd cc
text_in texts lists text (cell.Real x) h e = absurd cc
text_in texts lists text (cell.Vector v) h e = absurd cc
text_in texts lists text (cell.Name k) h e =
    let at : slice_index_or texts k [] ≡ text = cc in
    list_any_at (bytes_eq text) texts k [] h ((bytes_decides text (get_or texts k [])).1 (sym at))
text_in texts lists text (cell.Many k) h e =
    let s : Some (get_or lists k (listed.Ints [])) ≡ None = sym (back (get_or lists k (listed.Ints []))) ∙ ap listed_of (sym (numbered_list lists k h) ∙ e) in absurd cc

-- and so is a list
list_in : (texts : List (List ℕ)) (lists : List Listed) (a : Listed) (c : Cell) → IsNumbered (table texts lists) c → value_of (table texts lists) c ≡ value_listed a → list_any (the_eq.ghosts.eq a) lists ≡ true
list_in texts lists a (cell.Int i) h e = let s : None ≡ Some a = ap listed_of e ∙ back a in absurd cc
list_in texts lists a (cell.Real x) h e = let s : None ≡ Some a = ap listed_of e ∙ back a in absurd cc
list_in texts lists a (cell.Vector v) h e = let s : None ≡ Some a = ap listed_of e ∙ back a in absurd cc
list_in texts lists a (cell.Name k) h e = let s : None ≡ Some a = ap listed_of e ∙ back a in absurd cc
list_in texts lists a (cell.Many k) h e =
    let at : a ≡ get_or lists k (listed.Ints []) = one_list a (get_or lists k (listed.Ints [])) (sym e ∙ numbered_list lists k h) in
    list_any_at (the_eq.ghosts.eq a) lists k (listed.Ints []) (let l = length-map lists value_listed in omega arith) (subst (λ (b : Listed). the_eq.ghosts.eq a b ≡ true) at (itself a))

-- a text is put into the set of texts
module _ (texts after : List (List ℕ)) (lists : List Listed) (old : NameTable) (text : List ℕ) (is : after ≡ insert_key bytes_eq texts text) (was : table texts lists ≡ old) where
  text_put : (b : Bool) → list_any (bytes_eq text) texts ≡ b → after ≡ cond b texts (texts ++ text ∷ [])
  text_put b e = is ∙ ap (λ (b : Bool). cond b texts (texts ++ text ∷ [])) e

  pub text_grows : Grows old (table after lists)
  text_grows = subst (λ (n : NameTable). Grows n (table after lists)) was (by (list_any (bytes_eq text) texts) refl)
    where
      by : (b : Bool) → list_any (bytes_eq text) texts ≡ b → Grows (table texts lists) (table after lists)
      by true e = grows_same _ _ (ap (λ (ts : List (List ℕ)). table ts lists) (text_put true e))
      by false e = subst (λ (ts : List (List ℕ)). Grows (table texts lists) (table ts lists)) (sym (text_put false e)) (grows_text (table texts lists) text)

  pub text_known : IsThere old (value.Str text) → table after lists ≡ old
  text_known there =
      let here = subst (λ (n : NameTable). IsThere n (value.Str text)) (sym was) there in
      ap (λ (ts : List (List ℕ)). table ts lists) (text_put true (text_in texts lists text here.cell here.numbered here.value)) ∙ was

-- a list is put into the set of lists
module _ (texts : List (List ℕ)) (lists after : List Listed) (old : NameTable) (a : Listed) (is : after ≡ insert_key the_eq.ghosts.eq lists a) (was : table texts lists ≡ old) where
  list_put : (b : Bool) → list_any (the_eq.ghosts.eq a) lists ≡ b → after ≡ cond b lists (lists ++ a ∷ [])
  list_put b e = is ∙ ap (λ (b : Bool). cond b lists (lists ++ a ∷ [])) e

  pub list_grows : Grows old (table texts after)
  list_grows = subst (λ (n : NameTable). Grows n (table texts after)) was (by (list_any (the_eq.ghosts.eq a) lists) refl)
    where
      by : (b : Bool) → list_any (the_eq.ghosts.eq a) lists ≡ b → Grows (table texts lists) (table texts after)
      by true e = grows_same _ _ (ap (table texts) (list_put true e))
      by false e =
          let more : map value_listed after ≡ map value_listed lists ++ value_listed a ∷ [] = ap (map value_listed) (list_put false e) ∙ map-append value_listed lists (a ∷ []) in
          subst (λ (ls : List Value). Grows (table texts lists) (record { texts = texts; lists = ls })) (sym more) (grows_list (table texts lists) (value_listed a))

  pub list_known : IsThere old (value_listed a) → table texts after ≡ old
  list_known there =
      let here = subst (λ (n : NameTable). IsThere n (value_listed a)) (sym was) there in
      ap (table texts) (list_put true (list_in texts lists a here.cell here.numbered here.value)) ∙ was

-- the number of a text that is among the keys
pub text_at : (texts : List (List ℕ)) (lists : List Listed) (old : NameTable) (text : List ℕ) (k : ℕ) → table texts lists ≡ old → position (bytes_eq text) texts ≡ Some k → slice_index_or old.texts k [] ≡ text
text_at texts lists old text k was is =
    let p = position-Some (bytes_eq text) texts k [] is in
    ap (λ (n : NameTable). slice_index_or n.texts k []) (sym was) ∙ sym ((bytes_decides text (get_or texts k [])).0 p.1)

-- the number of a list that was put
pub list_at : (lists : List Listed) (a b : Listed) (k : ℕ) → slice_get lists k ≡ Some b → the_eq.ghosts.eq a b ≡ true → slice_index_or (map value_listed lists) k (value.Ints []) ≡ value_listed a
list_at lists a b k at e =
    get_or_from_slice_get (map value_listed lists) k (value_listed a) (value.Ints []) (slice_get-map value_listed lists k ∙ ap (option_map value_listed) at ∙ ap (λ (c : Listed). Some (value_listed c)) (sym (same a b e)))

pub same_texts : (texts after : List (List ℕ)) (lists : List Listed) (old : NameTable) → after ≡ texts → table texts lists ≡ old → table after lists ≡ old
same_texts texts after lists old e was = ap (λ (ts : List (List ℕ)). table ts lists) e ∙ was

pub same_lists : (texts : List (List ℕ)) (lists after : List Listed) (old : NameTable) → after ≡ lists → table texts lists ≡ old → table texts after ≡ old
same_lists texts lists after old e was = ap (table texts) e ∙ was

-- Attributes and groups of the geometry at a key, told by its sheet: which there are, and whether there is room for another.
use Rattle.std.proofs.Common.{◌≡◌, ◌≢◌, ℕ, zero, suc, ◌+◌, ◌<◌, ◌≤◌, true, false, List, [], ◌∷◌, length, refl, ap, sym, ◌∙◌, subst, arith}
use Rattle.std.specs.Prelude.{Option, Some, None, is_some, IfSome, IsSomeAnd, position, slice_set}
use Rattle.std.specs.Str.{bytes_eq}
use Rattle.std.proofs.lemmas.Bool.{false≢true}
use Rattle.std.proofs.lemmas.List.Quantifiers.{position-Some}
use Rattle.sop_model.specs.declared.class.Class.{Class}
use Rattle.sop_model.specs.declared.class.Class.TheVariants.{Detail, Prim, Point, Vertex}
use Rattle.sop_model.specs.declared.geo.Geo.{Geo}
use Rattle.sop_model.specs.declared.geo.Head.{Head}
use Rattle.sop_model.specs.declared.geo.HeadSet.{HeadSet}
use Rattle.sop_model.specs.Limits.{most_points, most_heads, most_groups}
use Rattle.sop_model.specs.Geometry.{heads_of, count_of, BeginsWithPosition, IsSound, IsWithin}
use Rattle.sop_model.specs.Rows.{head_named, group_named, attr_added, attr_deleted, group_added, points_added, IsNotPosition}
use Rattle.sop_rows.proofs.LawLemmas.{leave_within}
use Rattle.sop_cells.specs.Shelves.{ShelfPages}
use Rattle.sop_columns.specs.Names.{NameTable}
use Rattle.sop_pages.specs.Pages.{AreCounted}
use Rattle.sop_sheets.specs.Sheets.{SheetLists, table_of, geo_of, Becomes}
use Rattle.sop_sheets.proofs.ViewLemmas.{set_in}
use Rattle.sop_sheets.proofs.SheetLemmas.{sheet_stands}
use Rattle.sop_vault.specs.Keyed.{Keyed, at}
use Rattle.sop_vault.specs.Vaults.{VaultMap, vault_of, Counted, Changed}
use Rattle.sop_vault.specs.Refusals.{PassesLimit, IsNoPosition}
use Rattle.sop_vault.proofs.VaultLemmas.{sheet_here, seen_here, changed_clause}

module _ (s : ShelfPages) (n : NameTable) (slots : Keyed SheetLists) (c : Counted s n slots) (key : ℕ) (sheet : SheetLists) (is : at slots key ≡ Some sheet) where
  abbrev here : Geo
  here = geo_of s n sheet

  -- what holds of the geometry, said of what stands at the key
  pub told : (v : VaultMap) → vault_of s n slots ≡ v → (k : ℕ) → key ≡ k → (P : Geo → Type 0) → P here → IfSome (at v.geos k) P
  told v same k at_k P holds = subst (λ (o : Option Geo). IfSome o P) (sym (seen_here s n slots c key sheet is v same k at_k)) holds

  pub asked : (v : VaultMap) → vault_of s n slots ≡ v → (k : ℕ) → key ≡ k → (P : Geo → Type 0) → IfSome (at v.geos k) P → P here
  asked v same k at_k P holds = subst (λ (o : Option Geo). IfSome o P) (seen_here s n slots c key sheet is v same k at_k) holds

  pub set_here_is : (class : Class) → (table_of sheet class).set ≡ heads_of here class
  set_here_is class = set_in s n sheet (sheet_here s n slots c key sheet is) here refl class

  pub named_here : (class : Class) (name : List ℕ) → position (λ h. bytes_eq h.name name) (table_of sheet class).set.heads ≡ head_named here class name
  named_here class name = ap (λ (set : HeadSet). position (λ h. bytes_eq h.name name) set.heads) (set_here_is class)

  pub group_here : (class : Class) (name : List ℕ) → position (λ g. bytes_eq g name) (table_of sheet class).set.groups ≡ group_named here class name
  group_here class name = ap (λ (set : HeadSet). position (λ g. bytes_eq g name) set.groups) (set_here_is class)

  pub heads_here : (class : Class) → length (table_of sheet class).set.heads ≡ length (heads_of here class).heads
  heads_here class = ap (λ (set : HeadSet). length set.heads) (set_here_is class)

  pub groups_here : (class : Class) → length (table_of sheet class).set.groups ≡ length (heads_of here class).groups
  groups_here class = ap (λ (set : HeadSet). length set.groups) (set_here_is class)

  own : here ≡ (sheet_here s n slots c key sheet is).geo
  own = sheet_stands s n sheet (sheet_here s n slots c key sheet is)

  -- no room
  pub attr_full : (class : Class) (head : Head) → most_heads ≤ length (heads_of here class).heads → PassesLimit (attr_added here class head)
  attr_full class head full within =
      let w = subst (λ (g : Geo). IsWithin g) (sym own) (sheet_here s n slots c key sheet is).within in
      let few = (leave_within.add_attr here class head w).0 within in
      absurd (omega arith)

  pub group_full : (class : Class) (name : List ℕ) → most_groups ≤ length (heads_of here class).groups → PassesLimit (group_added here class name)
  group_full class name full within =
      let w = subst (λ (g : Geo). IsWithin g) (sym own) (sheet_here s n slots c key sheet is).within in
      let few = (leave_within.add_group here class name w).0 within in
      absurd (omega arith)

  pub points_full : (more : ℕ) → (count_of here Point + more ≤ most_points → ⊥) → PassesLimit (points_added here more)
  points_full more full within = full ((leave_within.add_points here more (subst (λ (g : Geo). IsWithin g) (sym own) (sheet_here s n slots c key sheet is).within)).0 within)

  -- a name other than `P` isn't that of the points' first head
  pub apart_here : (class : Class) (name : List ℕ) → IsNoPosition class name → (head : ℕ) → head_named here class name ≡ Some head → IsNotPosition class head
  apart_here Detail name differs head at_head = tt
  apart_here Prim name differs head at_head = tt
  apart_here Vertex name differs head at_head = tt
  apart_here Point name differs head at_head =
      let sound = subst (λ (g : Geo). IsSound g) (sym own) (sheet_here s n slots c key sheet is).sound in
      behind (heads_of here Point).heads sound.position head at_head
    where
      behind : (hs : List Head) → BeginsWithPosition hs → (head : ℕ) → position (λ h. bytes_eq h.name name) hs ≡ Some head → 0 < head
      behind [] begins head e = cc
      behind (h ∷ hs) begins zero e = absurd (false≢true (sym differs ∙ ap (λ (k : Head). bytes_eq k.name name) (sym begins) ∙ (position-Some (λ (k : Head). bytes_eq k.name name) (h ∷ hs) zero h e).1))
      behind (h ∷ hs) begins (suc head) e = omega arith

  -- the clause of an attribute that goes
  pub gone_clause : (t : ShelfPages) (m : NameTable) (now : SheetLists) → AreCounted t.own → (class : Class) (name : List ℕ) (head : ℕ) → head_named here class name ≡ Some head → Becomes s t n m sheet now (attr_deleted here class head)
      → (v : VaultMap) → vault_of s n slots ≡ v → (k : ℕ) → key ≡ k → IfSome (at v.geos k) (λ g. IsSomeAnd (head_named g class name) (λ h. Changed v (vault_of t m (slice_set slots key (Some now))) k (Some (attr_deleted g class h))))
  gone_clause t m now counted class name head found made v same k at_k =
      let changed = asked v same k at_k (λ (g : Geo). Changed v (vault_of t m (slice_set slots key (Some now))) k (Some (attr_deleted g class head))) (changed_clause s n slots c key sheet is t m now counted (λ (g : Geo). attr_deleted g class head) made v same k at_k) in
      told v same k at_k (λ (g : Geo). IsSomeAnd (head_named g class name) (λ h. Changed v (vault_of t m (slice_set slots key (Some now))) k (Some (attr_deleted g class h))))
      (subst (λ (o : Option ℕ). IsSomeAnd o (λ h. Changed v (vault_of t m (slice_set slots key (Some now))) k (Some (attr_deleted here class h)))) (sym found) changed)

-- there is none where the search found none
pub none_by : {X : Type 0} (o : Option X) → is_some o ≡ false → o ≡ None
none_by None e = refl
none_by (Some x) e = cc

-- and one where it found one
pub some_by : {X : Type 0} (o : Option X) → is_some o ≡ true → o ≢ None
some_by None e = λ f. cc
some_by (Some x) e = λ f. cc

-- what holds of something, told by what follows from it
pub some_map : {X : Type 0} {P Q : X → Type 0} (o : Option X) → ((x : X) → P x → Q x) → IfSome o P → IfSome o Q
some_map None f p = tt
some_map (Some x) f p = f x p

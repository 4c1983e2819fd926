-- How many pages of each column others hold too, where one value of one column is set.
use Rattle.std.proofs.Common.{◌≡◌, ℕ, zero, suc, ◌+◌, ◌≤◌, List, [], ◌∷◌, map, refl, ap, ◌∙◌, subst, arith}
use Rattle.std.specs.Prelude.{Option, Some, None, option_map, slice_set, slice_index_or}
use Rattle.std.proofs.Math.ListN.{get_or-map}
use Rattle.sop_model.specs.declared.class.Class.{Class}
use Rattle.sop_model.specs.declared.class.Class.TheVariants.{Detail, Prim, Point, Vertex}
use Rattle.sop_cells.specs.declared.place.Place.{Place}
use Rattle.sop_cells.specs.Shelves.{ShelfPages, shared}
use Rattle.sop_cells.proofs.PlaceLemmas.{held-append}
use Rattle.sop_cells.proofs.SpareLemmas.{shared_falls}
use Rattle.sop_columns.specs.Bits.{placed}
use Rattle.sop_columns.specs.Names.{NameTable}
use Rattle.sop_tables.specs.Tables.{flat, column_at, with_column, IsSparing}
use Rattle.sop_tables.proofs.FlatLemmas.{flat_at}
use Rattle.sop_sheets.specs.Sheets.{SheetLists, table_of, with_table}
use Rattle.sop_sheets.proofs.SheetLemmas.{in_sheet}
use Rattle.sop_vault.specs.Keyed.{Keyed, at}
use Rattle.sop_vault.specs.Vaults.{VaultMap, Shares, shares_in, share_in, share_at, shares_of, shares_of_class, vault_of, Counted}
use Rattle.sop_vault.proofs.KeyedLemmas.{set_here}
use Rattle.sop_vault.proofs.VaultLemmas.{here_held}

of_class : (s : ShelfPages) (sheet : SheetLists) (class : Class) → shares_in (shares_of s sheet) class ≡ shares_of_class s sheet class
of_class s sheet Detail = refl
of_class s sheet Prim = refl
of_class s sheet Point = refl
of_class s sheet Vertex = refl

share_read : (s : ShelfPages) (slots : Keyed SheetLists) (key : ℕ) (sheet : SheetLists) (class : Class) (head : ℕ) → at slots key ≡ Some sheet
    → share_at (map (option_map (shares_of s)) slots) key class head ≡ shared s (column_at (table_of sheet class) head)
share_read s slots key sheet class head is =
    ap (λ (o : Option Shares). share_in o class head) (get_or-map (option_map (shares_of s)) slots key None ∙ ap (option_map (shares_of s)) is)
    ∙ ap (λ (ns : List ℕ). slice_index_or ns head 0) (of_class s sheet class) ∙ get_or-map (shared s) (table_of sheet class).columns head []

set_either : (cs : List (List Place)) (k : ℕ) (new : List Place) (h : ℕ) (P : List Place → Type 0) → (k ≡ h → P new) → P (slice_index_or cs h []) → P (slice_index_or (slice_set cs k new) h [])
set_either [] k new h P p q = q
set_either (c ∷ cs) zero new zero P p q = p refl
set_either (c ∷ cs) zero new (suc h) P p q = q
set_either (c ∷ cs) (suc k) new zero P p q = q
set_either (c ∷ cs) (suc k) new (suc h) P p q = set_either cs k new h P (λ e. p (ap suc e)) q

-- columns of the geometry where one of them was set
column_after : (sh : SheetLists) (class : Class) (head : ℕ) (new : List Place) (c : Class) (h : ℕ) (P : List Place → Type 0) → (class ≡ c → head ≡ h → P new) → P (column_at (table_of sh c) h) → P (column_at (table_of (with_table sh class (with_column (table_of sh class) head new)) c) h)
column_after sh Detail head new Detail h P p q = set_either sh.detail.columns head new h P (p refl) q
column_after sh Detail head new Prim h P p q = q
column_after sh Detail head new Point h P p q = q
column_after sh Detail head new Vertex h P p q = q
column_after sh Prim head new Detail h P p q = q
column_after sh Prim head new Prim h P p q = set_either sh.prim.columns head new h P (p refl) q
column_after sh Prim head new Point h P p q = q
column_after sh Prim head new Vertex h P p q = q
column_after sh Point head new Detail h P p q = q
column_after sh Point head new Prim h P p q = q
column_after sh Point head new Point h P p q = set_either sh.point.columns head new h P (p refl) q
column_after sh Point head new Vertex h P p q = q
column_after sh Vertex head new Detail h P p q = q
column_after sh Vertex head new Prim h P p q = q
column_after sh Vertex head new Point h P p q = q
column_after sh Vertex head new Vertex h P p q = set_either sh.vertex.columns head new h P (p refl) q

module _ (s t : ShelfPages) (n m : NameTable) (slots : Keyed SheetLists) (key : ℕ) (sheet now : SheetLists) (c : Counted s n slots) (is : at slots key ≡ Some sheet) (class : Class) (head : ℕ)
    (rest : now ≡ with_table sheet class (with_column (table_of sheet class) head (column_at (table_of now class) head))) (step : IsSparing s t (column_at (table_of sheet class) head) (column_at (table_of now class) head)) where
  abbrev after : Keyed SheetLists
  after = slice_set slots key (Some now)

  abbrev new : List Place
  new = column_at (table_of now class) head

  now_here : at after key ≡ Some now
  now_here = set_here slots key sheet now is

  falls_at : (c' : Class) (h : ℕ) → shared t (column_at (table_of sheet c') h) ≤ shared s (column_at (table_of sheet c') h)
  falls_at c' h = shared_falls s t (column_at (table_of sheet c') h) (λ x l. step.falls x (
      let cov = (here_held s n slots c key sheet is).covered.each x in let a = flat_at (table_of sheet c').columns h x in
      let b = held-append x (flat (table_of sheet c').columns) (flat (map placed (table_of sheet c').members)) in let d = in_sheet x sheet c' in omega arith))

  -- pages and shared places of the column, added up, don't rise
  pub spare_step : (v : VaultMap) → vault_of s n slots ≡ v → (k : ℕ) → key ≡ k → (vault_of t m after).pages + share_at (vault_of t m after).shares k class head ≤ v.pages + share_at v.shares k class head
  spare_step v same k at_k =
      let a = step.spare in
      let b = share_read t after key now class head now_here in
      let d = share_read s slots key sheet class head is in
      let e = ap (λ (i : ℕ). share_at (vault_of t m after).shares i class head) at_k in
      let f = ap (λ (w : VaultMap). share_at w.shares key class head) same in
      let g = ap (λ (i : ℕ). share_at v.shares i class head) at_k in
      let p = ap (λ (w : VaultMap). w.pages) same in
      omega arith

  -- no column of the geometry has more shared places than before
  pub falls_step : (v : VaultMap) → vault_of s n slots ≡ v → (k : ℕ) → key ≡ k → (c' : Class) (h : ℕ) → share_at (vault_of t m after).shares k c' h ≤ share_at v.shares k c' h
  falls_step v same k at_k c' h =
      let x : shared t (column_at (table_of (with_table sheet class (with_column (table_of sheet class) head new)) c') h) ≤ shared s (column_at (table_of sheet c') h) =
      column_after sheet class head new c' h (λ xs. shared t xs ≤ shared s (column_at (table_of sheet c') h))
      (λ e f. subst (λ (d : Class). shared t new ≤ shared s (column_at (table_of sheet d) h)) e (subst (λ (i : ℕ). shared t new ≤ shared s (column_at (table_of sheet class) i)) f (let a = step.spare in let b = step.rises in omega arith)))
      (falls_at c' h) in
      let y = ap (λ (sh : SheetLists). shared t (column_at (table_of sh c') h)) rest in
      let b = share_read t after key now c' h now_here in
      let d = share_read s slots key sheet c' h is in
      let e = ap (λ (i : ℕ). share_at (vault_of t m after).shares i c' h) at_k in
      let f = ap (λ (w : VaultMap). share_at w.shares key c' h) same in
      let g = ap (λ (i : ℕ). share_at v.shares i c' h) at_k in
      omega arith

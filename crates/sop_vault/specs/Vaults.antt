-- What contracts see of a vault: the geometries at its keys, the texts and lists that its cells name, and the pages that each key holds.
use Rattle.std.specs.Prelude.{◌≡◌, ◌≢◌, ℕ, List, Option, map, option_map, slice_index_or, None, Some}
use Rattle.sop_model.specs.declared.class.Class.{Class}
use Rattle.sop_model.specs.declared.class.Class.TheVariants.{Detail, Prim, Point, Vertex}
use Rattle.sop_model.specs.declared.geo.Geo.{Geo}
use Rattle.sop_pages.specs.Pages.{AreCounted, live_pages}
use Rattle.sop_cells.specs.Places.{own}
use Rattle.sop_cells.specs.Shelves.{ShelfPages, shared}
use Rattle.sop_columns.specs.Names.{NameTable, Grows}
use Rattle.sop_sheets.specs.Sheets.{SheetLists, table_of, places_of, geo_of, IsSheet}
use Rattle.sop_vault.specs.Keyed.{Keyed, at, Changes, Adds, AreSame}
use Rattle.sop_vault.specs.Counted.{CountsPlaces, AreSlots, all_seen}

-- for each column of each class how many of its pages have another holder
pub record Shares : Type 0 where
  pub detail : List ℕ
  pub prim : List ℕ
  pub point : List ℕ
  pub vertex : List ℕ

abbrev pub shares_in : Shares → Class → List ℕ
shares_in shares Detail = shares.detail
shares_in shares Prim = shares.prim
shares_in shares Point = shares.point
shares_in shares Vertex = shares.vertex

-- A vault. `geos` are the geometries; `names` only grows, at its ends; `held` are the own pages of each geometry, one for each place that
-- holds one; `shares` tells for each column how many of its pages others hold too; `pages` is the number of pages.
pub record VaultMap : Type 0 where
  pub geos : Keyed Geo
  pub names : NameTable
  pub held : Keyed (List ℕ)
  pub shares : Keyed Shares
  pub pages : ℕ

-- how many pages of the column under a head others hold too
abbrev pub share_in : Option Shares → Class → ℕ → ℕ
share_in None class head = 0
share_in (Some shares) class head = slice_index_or (shares_in shares class) head 0

abbrev pub share_at : Keyed Shares → ℕ → Class → ℕ → ℕ
share_at shares key class head = share_in (at shares key) class head

-- HOW THE SHEETS OF A VAULT STAND FOR IT

abbrev pub pages_held : SheetLists → List ℕ
pages_held sheet = own (places_of sheet)

abbrev pub shares_of_class : ShelfPages → SheetLists → Class → List ℕ
shares_of_class s sheet class = map (shared s) (table_of sheet class).columns

abbrev pub shares_of : ShelfPages → SheetLists → Shares
shares_of s sheet = record {
  detail = shares_of_class s sheet Detail;
  prim = shares_of_class s sheet Prim;
  point = shares_of_class s sheet Point;
  vertex = shares_of_class s sheet Vertex;
}

abbrev pub vault_of : ShelfPages → NameTable → Keyed SheetLists → VaultMap
vault_of s n sheets = record {
  geos = all_seen geo_of s n sheets;
  names = n;
  held = map (option_map pages_held) sheets;
  shares = map (option_map (shares_of s)) sheets;
  pages = live_pages s.own;
}

-- each page's count is the number of its places in all columns, and each sheet is one
pub record Counted (s : ShelfPages) (n : NameTable) (slots : Keyed SheetLists) : Type 0 where
  pub counts : CountsPlaces places_of s slots
  pub sheets : AreSlots IsSheet s n slots
  pub pages : AreCounted s.own

-- what some vault stands for
pub record IsVault (v : VaultMap) : Type 0 where
  pub shelf : ShelfPages
  pub names : NameTable
  pub sheets : Keyed SheetLists
  pub counted : Counted shelf names sheets
  pub is : vault_of shelf names sheets ≡ v

-- WHAT CALLS DO

-- one key stands for this now, or for nothing; no other key changed, nor its pages
pub record Changed (old new : VaultMap) (key : ℕ) (g : Option Geo) : Type 0 where
  pub geos : Changes old.geos new.geos key g
  pub held : (other : ℕ) → other ≢ key → at new.held other ≡ at old.held other
  pub names : Grows old.names new.names

-- a key that was free stands for this now; no other key changed, nor its pages
pub record Added (old new : VaultMap) (key : ℕ) (g : Option Geo) : Type 0 where
  pub geos : Adds old.geos new.geos key g
  pub held : (other : ℕ) → other ≢ key → at new.held other ≡ at old.held other
  pub names : Grows old.names new.names

-- every key stands for what it stood for, and holds the pages that it held, as many of them with others; only names may have come
pub record IsAsBefore (old new : VaultMap) : Type 0 where
  pub geos : AreSame old.geos new.geos
  pub held : AreSame old.held new.held
  pub shares : AreSame old.shares new.shares
  pub pages : new.pages ≡ old.pages
  pub names : Grows old.names new.names

-- the same of a run of calls: every key stands for what it stood for, and holds the pages that it held; only names may have come
pub record HoldsAsBefore (old new : VaultMap) : Type 0 where
  pub geos : AreSame old.geos new.geos
  pub held : AreSame old.held new.held
  pub pages : new.pages ≡ old.pages
  pub names : Grows old.names new.names

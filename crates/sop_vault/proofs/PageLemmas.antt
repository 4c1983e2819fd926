-- The pages of a vault are those that its geometries hold.
use Rattle.std.proofs.Common.{◌≡◌, ℕ, ◌+◌, List, [], ◌∷◌, map, refl, ap, sym, ◌∙◌, subst, inl, inr}
use Rattle.std.specs.Prelude.{◌⊎◌, Option, Some, None, IsSome, option_map}
use Rattle.std.proofs.Math.ListN.{get_or-map}
use Rattle.sop_model.specs.declared.geo.Geo.{Geo}
use Rattle.sop_pages.specs.Moves.{times}
use Rattle.sop_pages.proofs.StoreLemmas as store
use Rattle.sop_cells.specs.Shelves.{ShelfPages}
use Rattle.sop_columns.specs.Names.{NameTable}
use Rattle.sop_sheets.specs.Sheets.{SheetLists, places_of, geo_of}
use Rattle.sop_vault.specs.Keyed.{Keyed, at, total, AreSame, IsLive}
use Rattle.sop_vault.specs.Counted.{holds}
use Rattle.sop_vault.specs.Vaults.{VaultMap, pages_held, vault_of, IsVault}
use Rattle.sop_vault.proofs.KeyedLemmas.{total_same}

-- how often a page is held at a key
abbrev held_times : ℕ → Option (List ℕ) → ℕ
held_times id None = 0
held_times id (Some pages) = times id pages

held_by_sheet : (id : ℕ) (o : Option SheetLists) → holds places_of id o ≡ held_times id (option_map pages_held o)
held_by_sheet id None = refl
held_by_sheet id (Some sheet) = refl

total_held : (id : ℕ) (slots : Keyed SheetLists) → total (holds places_of id) slots ≡ total (held_times id) (map (option_map pages_held) slots)
total_held id [] = refl
total_held id (o ∷ slots) = let here = held_by_sheet id o in let rest = total_held id slots in λ j. here j + rest j

-- a key without a geometry holds nothing
none_held : (s : ShelfPages) (n : NameTable) (slots : Keyed SheetLists) (k : ℕ) → at (vault_of s n slots).geos k ≡ None → at (vault_of s n slots).held k ≡ None
none_held s n slots k none = get_or-map (option_map pages_held) slots k None ∙ by (at slots k) (sym (get_or-map (option_map (geo_of s n)) slots k None) ∙ none)
  where
    by : (o : Option SheetLists) → option_map (geo_of s n) o ≡ None → option_map pages_held o ≡ None
    by None e = refl
    by (Some sheet) e = cc

pub some_or_none : (o : Option Geo) → (IsSome o) ⊎ (o ≡ None)
some_or_none None = inr refl
some_or_none (Some g) = inl refl

none_in : (x : VaultMap) → IsVault x → (k : ℕ) → at x.geos k ≡ None → at x.held k ≡ None
none_in x p k none = subst (λ (y : VaultMap). at y.held k ≡ None) p.is (none_held p.shelf p.names p.sheets k (ap (λ (y : VaultMap). at y.geos k) p.is ∙ none))

-- a key that stands for the same holds the same, if it does where something stands
pub held_alike : (v w : VaultMap) → IsVault v → IsVault w → (k : ℕ) → at w.geos k ≡ at v.geos k → (IsLive v.geos k → at w.held k ≡ at v.held k) → at w.held k ≡ at v.held k
held_alike v w is now k same held = by (some_or_none (at v.geos k))
  where
    by : (IsSome (at v.geos k)) ⊎ (at v.geos k ≡ None) → at w.held k ≡ at v.held k
    by (inl live) = held live
    by (inr none) = none_in w now k (same ∙ none) ∙ sym (none_in v is k none)

-- two vaults whose geometries hold the same pages have as many
pub same_pages : (v w : VaultMap) → IsVault v → IsVault w → AreSame v.geos w.geos → ((k : ℕ) → IsLive v.geos k → at w.held k ≡ at v.held k) → w.pages ≡ v.pages
same_pages v w is now geos held =
    let pages = store.same_pages now.shelf.own is.shelf.own now.counted.pages is.counted.pages (λ id.
    now.counted.counts id ∙ total_held id now.sheets ∙ ap (λ (x : VaultMap). total (held_times id) x.held) now.is ∙ total_same (held_times id) refl w.held v.held all_held
    ∙ ap (λ (x : VaultMap). total (held_times id) x.held) (sym is.is) ∙ sym (total_held id is.sheets) ∙ sym (is.counted.counts id)) in
    sym (ap (λ (x : VaultMap). x.pages) now.is) ∙ pages ∙ ap (λ (x : VaultMap). x.pages) is.is
  where
    all_held : (k : ℕ) → at w.held k ≡ at v.held k
    all_held k = held_alike v w is now k (geos k) (held k)

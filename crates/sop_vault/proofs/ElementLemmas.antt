-- Whether a primitive or vertices may come to the geometry at a key: what tests tell, and which geometries pass a limit.
use Rattle.std.proofs.Common.{◌≡◌, ℕ, ◌+◌, ◌<◌, ◌≤◌, ◌&&◌, Bool, true, false, ltb-true, lt-ltb, List, length, refl, ap, sym, ◌∙◌, arith}
use Rattle.std.specs.Prelude.{All, nat_lt}
use Rattle.std.specs.List.{list_all}
use Rattle.std.proofs.lemmas.Bool.{and_parts, and_from, false≢true}
use Rattle.std.proofs.lemmas.List.Elements.{All-weaker}
use Rattle.std.proofs.lemmas.List.Sums.{AllPass-from_list_all, list_all-from_AllPass}
use Rattle.sop_model.specs.declared.class.Class.TheVariants.{Prim, Vertex}
use Rattle.sop_model.specs.declared.geo.Geo.{Geo}
use Rattle.sop_model.specs.Limits.{most_prims, most_vertices}
use Rattle.sop_model.specs.Geometry.{count_of}
use Rattle.sop_model.specs.Rows.{prim_added, vertices_added, ArePlaces}
use Rattle.sop_rows.proofs.LawLemmas.{leave_within}
use Rattle.sop_cells.specs.Shelves.{ShelfPages}
use Rattle.sop_columns.specs.Names.{NameTable}
use Rattle.sop_sheets.specs.Sheets.{SheetLists, geo_of, IsSheet}
use Rattle.std.proofs.lemmas.List.{length-map}
use Rattle.sop_model.proofs.LimitsLemmas.{within_prims}
use Rattle.sop_sheets.proofs.SheetLemmas.{sheet_stands}
use Rattle.sop_sheets.proofs.ViewLemmas.{within_in, count_in}
use Rattle.sop_vault.specs.Refusals.{PassesLimit}

-- numbers below a count
module _ (numbers : List ℕ) (count k : ℕ) (same : count ≡ k) where
  pub are_below : list_all (λ n. nat_lt n count) numbers ≡ true → All (λ n. n < k) numbers
  are_below e = All-weaker (λ n. nat_lt n count ≡ true) (λ n. n < k) (λ n yes. let l = ltb-true n count yes in omega arith) numbers (AllPass-from_list_all (λ n. nat_lt n count) numbers e)

  pub not_below : list_all (λ n. nat_lt n count) numbers ≡ false → All (λ n. n < k) numbers → ⊥
  not_below e all =
      let yes = All-weaker (λ n. n < k) (λ n. nat_lt n count ≡ true) (λ n l. lt-ltb n count (omega arith)) numbers all in
      false≢true (sym e ∙ list_all-from_AllPass (λ n. nat_lt n count) numbers yes)

-- pairs of a number below one count and a number below another
module _ (pairs : List (ℕ × ℕ)) (first second i j : ℕ) (same : first ≡ i) (same' : second ≡ j) where
  abbrev fits : ℕ × ℕ → Bool
  fits a = nat_lt a.0 first && nat_lt a.1 second

  pub are_pairs : list_all fits pairs ≡ true → All (λ a. (a.0 < i) × (a.1 < j)) pairs
  are_pairs e =
      All-weaker (λ a. fits a ≡ true) (λ a. (a.0 < i) × (a.1 < j))
      (λ a yes. let both = and_parts (nat_lt a.0 first) (nat_lt a.1 second) yes in let l = ltb-true a.0 first both.0 in let m = ltb-true a.1 second both.1 in (omega arith, omega arith)) pairs
      (AllPass-from_list_all fits pairs e)

  pub not_pairs : list_all fits pairs ≡ false → All (λ a. (a.0 < i) × (a.1 < j)) pairs → ⊥
  not_pairs e all =
      let yes = All-weaker (λ a. (a.0 < i) × (a.1 < j)) (λ a. fits a ≡ true)
      (λ a both. let l = both.0 in let m = both.1 in and_from (nat_lt a.0 first) (nat_lt a.1 second) (lt-ltb a.0 first (omega arith)) (lt-ltb a.1 second (omega arith))) pairs all in
      false≢true (sym e ∙ list_all-from_AllPass fits pairs yes)

-- no room
module _ (s : ShelfPages) (n : NameTable) (sheet : SheetLists) (is : IsSheet s n sheet) (g : Geo) (seen : geo_of s n sheet ≡ g) where
  pub prim_full : (closed : Bool) (points : List ℕ) → ((count_of g Prim < most_prims) × (count_of g Vertex + length points ≤ most_vertices) → ⊥) → PassesLimit (prim_added g closed points)
  prim_full closed points full within = full ((leave_within.add_prim g closed points (within_in s n sheet is g seen)).0 within)

  pub vertices_full : (adds : List (ℕ × ℕ)) → ArePlaces g adds → (count_of g Vertex + length adds ≤ most_vertices → ⊥) → PassesLimit (vertices_added g adds)
  vertices_full adds are full within = full ((leave_within.add_vertices g adds (within_in s n sheet is g seen) are).0 within)

-- a geometry has no more primitives than it may have
pub prims_within : (s : ShelfPages) (n : NameTable) (sheet : SheetLists) → IsSheet s n sheet → sheet.prim.count ≤ most_prims
prims_within s n sheet is =
    let w = within_prims is.within in let c = count_in s n sheet is (geo_of s n sheet) refl Prim in let e = sheet_stands s n sheet is in
    let l = length-map is.geo.prims (λ p. p.row) in let f = ap (λ (g : Geo). count_of g Prim) e in omega arith

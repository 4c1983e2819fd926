-- The calls of a vault, by what they make of the sheet at one key.
use Rattle.std.proofs.Common.{◌≡◌, ◌≢◌, ℕ, ◌+◌, ◌^◌, ◌<◌, ◌≤◌, List, [], ◌∷◌, ◌++◌, length, map, length-append, refl, ap, sym, ◌∙◌, subst, arith, inl, inr}
use Rattle.std.specs.Prelude.{◌⊎◌, if◌then◌else◌, nat_lt, Option, Some, None, option_map, slice_set, IfSome, IsSomeAnd, Result, Ok, Err, OnErr}
use Rattle.std.proofs.Math.ListN.{get_or-map}
use Rattle.sop_model.specs.declared.geo.Geo.{Geo}
use Rattle.sop_pages.specs.Pages.{AreCounted, count}
use Rattle.sop_pages.specs.Moves.{times, Covers}
use Rattle.sop_pages.proofs.MoveLemmas.{same_or}
use Rattle.sop_cells.specs.Places.{own}
use Rattle.sop_cells.specs.declared.place.Place.{Place}
use Rattle.sop_cells.specs.declared.place.Place.TheVariants.{Own, Base}
use Rattle.sop_cells.specs.Shelves.{ShelfPages, shared, Shifts}
use Rattle.sop_cells.proofs.PlaceLemmas.{own-append, same_shelf_pages}
use Rattle.sop_columns.specs.Names.{NameTable, Grows}
use Rattle.sop_columns.proofs.NameLemmas.{grows_none}
use Rattle.sop_tables.specs.Tables.{places_in, IsHeld, HasRoom, HasRoomFor, IsNoStep}
use Rattle.sop_tables.proofs.RoomLemmas.{table_few}
use Rattle.sop_model.specs.declared.class.Class.TheVariants.{Detail, Prim, Point, Vertex}
use Rattle.sop_model.specs.declared.class.Class.{Class}
use Rattle.sop_sheets.specs.Sheets.{SheetLists, table_of, sheet_room, places_of, geo_of, IsSheet, IsSheetStep, Becomes, Stays}
use Rattle.sop_sheets.proofs.SheetLemmas.{sheet_kept}
use Rattle.sop_sheets.proofs.ViewLemmas.{sheet_held}
use Rattle.sop_vault.specs.Keyed.{Keyed, at, Changes}
use Rattle.sop_vault.specs.Counted.{slot_places, IsSlot, all_seen}
use Rattle.sop_vault.specs.Vaults.{VaultMap, pages_held, shares_of, vault_of, Counted, Changed, Added, IsAsBefore}
use Rattle.sop_vault.proofs.KeyedLemmas.{set_here, set_other}
use Rattle.sop_vault.proofs.StepLemmas.{IsFramed, seen_at, key_covered, key_kept, key_seen, counts_room, times_length, step_counted, step_slots, step_changes}

-- sheets whose pages all have another place are what they were
framed : IsFramed places_of IsSheet geo_of
framed s t n m gone come shifts grows sheet free is = sheet_kept s t n m gone come shifts grows sheet free is

pub err_by : {X E P : Type 0} (r : Result X E) → P → OnErr r P
err_by (Ok x) p = tt
err_by (Err e) p = p

held_at : (slots : Keyed SheetLists) (k : ℕ) → at (map (option_map pages_held) slots) k ≡ option_map pages_held (at slots k)
held_at slots k = get_or-map (option_map pages_held) slots k None

-- SHARED PLACES

-- as many of the places are shared, where each page is counted as often
shared_same : (s t : ShelfPages) → ((id : ℕ) → count t.own id ≡ count s.own id) → (places : List Place) → shared t places ≡ shared s places
shared_same s t same [] = refl
shared_same s t same (Own id ∷ places) = let one = same id in let rest = shared_same s t same places in λ j. (if nat_lt 1 (one j) then 1 else 0) + rest j
shared_same s t same (Base id ∷ places) = ap (λ n. 1 + n) (shared_same s t same places)

shares_same : (s t : ShelfPages) → ((id : ℕ) → count t.own id ≡ count s.own id) → (o : Option SheetLists) → option_map (shares_of t) o ≡ option_map (shares_of s) o
shares_same s t same None = refl
shares_same s t same (Some sheet) =
    let each = λ (class : Class). columns (table_of sheet class).columns in
    let d = each Detail in let p = each Prim in let o = each Point in let v = each Vertex in
    λ j. Some (record { detail = d j; prim = p j; point = o j; vertex = v j })
  where
    columns : (cs : List (List Place)) → map (shared t) cs ≡ map (shared s) cs
    columns [] = refl
    columns (c ∷ cs) = let one = shared_same s t same c in let rest = columns cs in λ j. one j ∷ rest j

-- where names alone came, and the slots are the same
shares_stay : (s t : ShelfPages) (n m : NameTable) (slots after : Keyed SheetLists) → Shifts s t [] [] → (k : ℕ) → at after k ≡ at slots k → at (vault_of t m after).shares k ≡ at (vault_of s n slots).shares k
shares_stay s t n m slots after shifts k same =
    get_or-map (option_map (shares_of t)) after k None ∙ ap (option_map (shares_of t)) same ∙ shares_same s t (λ id. let a = shifts.moves.counts id in omega arith) (at slots k)
    ∙ sym (get_or-map (option_map (shares_of s)) slots k None)

-- one key has another sheet, or none
module _ (s t : ShelfPages) (n m : NameTable) (slots after : Keyed SheetLists) (c : Counted s n slots) (key : ℕ) (was now : Option SheetLists) (grows : Grows n m) (at_was : at slots key ≡ was) (at_now : at after key ≡ now)
    (others : (k : ℕ) → k ≢ key → at after k ≡ at slots k) (shifts : Shifts s t (slot_places places_of was) (slot_places places_of now)) (counted : AreCounted t.own) where
  pub step_kept : IsSlot IsSheet t m now → Counted t m after
  step_kept is = record {
    counts = step_counted places_of IsSheet geo_of framed s t n m slots after key was now c.counts c.sheets grows at_was at_now others shifts;
    sheets = step_slots places_of IsSheet geo_of framed s t n m slots after key was now c.counts c.sheets grows at_was at_now others shifts is;
    pages = counted;
  }

  changes : (view : Keyed Geo) → all_seen geo_of s n slots ≡ view → (g : Option Geo) → option_map (geo_of t m) now ≡ g → Changes view (all_seen geo_of t m after) key g
  changes = step_changes places_of IsSheet geo_of framed s t n m slots after key was now c.counts c.sheets grows at_was at_now others shifts

  other_held : (other : ℕ) → other ≢ key → at (vault_of t m after).held other ≡ at (vault_of s n slots).held other
  other_held other ne = held_at after other ∙ ap (option_map pages_held) (others other ne) ∙ sym (held_at slots other)

  pub step_changed : (g : Option Geo) → option_map (geo_of t m) now ≡ g → Changed (vault_of s n slots) (vault_of t m after) key g
  step_changed g e = record { geos = changes (all_seen geo_of s n slots) refl g e; held = other_held; names = grows }

  pub step_added : was ≡ None → (g : Option Geo) → option_map (geo_of t m) now ≡ g → Added (vault_of s n slots) (vault_of t m after) key g
  step_added free g e =
      let ch = changes (all_seen geo_of s n slots) refl g e in
      record {
        geos = record { was_free = seen_at places_of IsSheet geo_of s n slots key ∙ ap (option_map (geo_of s n)) (at_was ∙ free); here = ch.here; others = ch.others };
        held = other_held;
        names = grows;
      }

-- a key of a vault, and the sheet that stands there
module _ (s : ShelfPages) (n : NameTable) (slots : Keyed SheetLists) (c : Counted s n slots) (key : ℕ) (sheet : SheetLists) (is : at slots key ≡ Some sheet) where
  pub sheet_here : IsSheet s n sheet
  sheet_here = key_kept places_of IsSheet geo_of s n slots c.counts c.sheets key sheet is

  sheet_covered : Covers s.own (own (places_of sheet))
  sheet_covered = key_covered places_of IsSheet geo_of s n slots c.counts c.sheets key sheet is

  pub here_held : IsHeld s (places_of sheet)
  here_held = sheet_held s n sheet sheet_here sheet_covered

  -- what the caller knows of the geometry at the key
  module _ (v : VaultMap) (same : vault_of s n slots ≡ v) (k : ℕ) (at_k : key ≡ k) where
    pub seen_here : at v.geos k ≡ Some (geo_of s n sheet)
    seen_here = ap (at v.geos) (sym at_k) ∙ key_seen places_of IsSheet geo_of s n slots c.counts c.sheets key sheet is v.geos (ap (λ (w : VaultMap). w.geos) same)

    pub known : (P : Geo → Type 0) → IsSomeAnd (at v.geos k) P → P (geo_of s n sheet)
    known P h = subst (λ (o : Option Geo). IsSomeAnd o P) seen_here h

  -- THE STEP
  module _ (t : ShelfPages) (m : NameTable) (now : SheetLists) (counted : AreCounted t.own) where
    abbrev after : Keyed SheetLists
    after = slice_set slots key (Some now)

    -- the sheet took a step
    pub call_counted : IsSheetStep s t n m sheet now → Counted t m after
    call_counted step = step_kept s t n m slots after c key (Some sheet) (Some now) step.grows is (set_here slots key sheet now is) (set_other slots key now) step.shifts counted step.sheet

    call_changed : (g : Geo) → Becomes s t n m sheet now g → Changed (vault_of s n slots) (vault_of t m after) key (Some g)
    call_changed g b = step_changed s t n m slots after c key (Some sheet) (Some now) b.step.grows is (set_here slots key sheet now is) (set_other slots key now) b.step.shifts counted (Some g) (ap Some b.geo)

    -- the clause of Ok
    pub changed_clause : (op : Geo → Geo) → Becomes s t n m sheet now (op (geo_of s n sheet)) → (v : VaultMap) → vault_of s n slots ≡ v → (k : ℕ) → key ≡ k
        → IfSome (at v.geos k) (λ g. Changed v (vault_of t m after) k (Some (op g)))
    changed_clause op b v same k at_k =
        let made : Changed v (vault_of t m after) k (Some (op (geo_of s n sheet))) =
        subst (λ (i : ℕ). Changed v (vault_of t m after) i (Some (op (geo_of s n sheet)))) at_k (subst (λ (w : VaultMap). Changed w (vault_of t m after) key (Some (op (geo_of s n sheet)))) same (call_changed (op (geo_of s n sheet)) b)) in
        subst (λ (o : Option Geo). IfSome o (λ g. Changed v (vault_of t m after) k (Some (op g)))) (sym (seen_here v same k at_k)) made

    -- nothing changed but names
    still : Stays s t n m sheet now → IsSheetStep s t n m sheet now
    still st =
        let e = st.same in
        let free : (id : ℕ) → 1 ≤ times id (own (places_of sheet)) → times id (own []) < count s.own id = λ id h. let a = sheet_covered.each id in omega arith in
        let kept = (sheet_kept s t n m [] [] st.pages.shifts st.pages.grows sheet free sheet_here).0 in
        let lots = ap places_of e in
        subst (IsSheetStep s t n m sheet) (sym e) (record {
          shifts = record {
            base = st.pages.shifts.base;
            moves = record {
              counts = λ id. let a = st.pages.shifts.moves.counts id in omega arith;
              kept = λ id less. st.pages.shifts.moves.kept id (omega arith);
            };
          };
          grows = st.pages.grows;
          sheet = kept;
        })

    pub stays_counted : Stays s t n m sheet now → Counted t m after
    stays_counted st = call_counted (still st)

    -- the clause of Err
    pub kept_clause : Stays s t n m sheet now → (v : VaultMap) → vault_of s n slots ≡ v → IsAsBefore v (vault_of t m after)
    kept_clause st v same =
        let e = st.same in
        let free : (id : ℕ) → 1 ≤ times id (own (places_of sheet)) → times id (own []) < count s.own id = λ id h. let a = sheet_covered.each id in omega arith in
        let geo = (sheet_kept s t n m [] [] st.pages.shifts st.pages.grows sheet free sheet_here).1 in
        let made : Becomes s t n m sheet now (geo_of s n sheet) = record { step = still st; geo = ap (geo_of t m) e ∙ geo } in
        let changed = call_changed (geo_of s n sheet) made in
        subst (λ (w : VaultMap). IsAsBefore w (vault_of t m after)) same (record {
          geos = λ k. each k (same_key k) changed;
          held = λ k. held_at after k ∙ ap (option_map pages_held) (slot_same k (same_key k) e) ∙ sym (held_at slots k);
          shares = λ k. shares_stay s t n m slots after st.pages.shifts k (slot_same k (same_key k) e);
          pages = same_shelf_pages s t c.pages counted st.pages.shifts;
          names = st.pages.grows;
        })
      where
        same_key : (k : ℕ) → (k ≡ key) ⊎ (k ≢ key)
        same_key k = same_or k key

        each : (k : ℕ) → (k ≡ key) ⊎ (k ≢ key) → Changed (vault_of s n slots) (vault_of t m after) key (Some (geo_of s n sheet)) → at (all_seen geo_of t m after) k ≡ at (all_seen geo_of s n slots) k
        each k (inl e) ch = ap (at (all_seen geo_of t m after)) e ∙ ch.geos.here ∙ sym (seen_at places_of IsSheet geo_of s n slots key ∙ ap (option_map (geo_of s n)) is) ∙ ap (at (all_seen geo_of s n slots)) (sym e)
        each k (inr d) ch = ch.geos.others k d

        slot_same : (k : ℕ) → (k ≡ key) ⊎ (k ≢ key) → now ≡ sheet → at after k ≡ at slots k
        slot_same k (inl e) st = ap (at after) e ∙ set_here slots key sheet now is ∙ ap Some st ∙ sym is ∙ ap (at slots) (sym e)
        slot_same k (inr d) st = set_other slots key now k d

-- ROOM FOR A SHARE

-- a sheet has few places
sheet_few : (s : ShelfPages) (n : NameTable) (sheet : SheetLists) → IsSheet s n sheet → length (own (places_of sheet)) ≤ sheet_room
sheet_few s n sheet is =
    let A = own (places_in sheet.detail) in
    let B = own (places_in sheet.prim) in
    let C = own (places_in sheet.point) in
    let D = own (places_in sheet.vertex) in
    let a = table_few s n sheet.detail (is.tables Detail) in
    let b = table_few s n sheet.prim (is.tables Prim) in
    let c = table_few s n sheet.point (is.tables Point) in
    let d = table_few s n sheet.vertex (is.tables Vertex) in
    let last = ap length (own-append (places_in sheet.point) (places_in sheet.vertex)) ∙ length-append C D in
    let more = ap length (own-append (places_in sheet.prim) (places_in sheet.point ++ places_in sheet.vertex)) ∙ length-append B (own (places_in sheet.point ++ places_in sheet.vertex)) in
    let whole : length (own (places_of sheet)) ≡ length A + length (own (places_in sheet.prim ++ (places_in sheet.point ++ places_in sheet.vertex))) =
    ap length (own-append (places_in sheet.detail) (places_in sheet.prim ++ (places_in sheet.point ++ places_in sheet.vertex))) ∙ length-append A (own (places_in sheet.prim ++ (places_in sheet.point ++ places_in sheet.vertex))) in
    omega arith

slot_few : (s : ShelfPages) (n : NameTable) (o : Option SheetLists) → IsSlot IsSheet s n o → length (own (slot_places places_of o)) ≤ sheet_room
slot_few s n None is = omega arith
slot_few s n (Some sheet) is = sheet_few s n sheet is

module _ (s : ShelfPages) (n : NameTable) (slots : Keyed SheetLists) (c : Counted s n slots) (key : ℕ) (sheet : SheetLists) (is : at slots key ≡ Some sheet) where
  -- the counts have room for one sheet more, and for many
  pub room_here : length slots < 2 ^ 64 → HasRoom s (places_of sheet)
  room_here few = record {
    each = λ id.
        let a = counts_room places_of IsSheet geo_of s slots c.counts sheet_room (λ k. slot_few s n (at slots k) (c.sheets k)) id in
        let b = times_length id (own (places_of sheet)) in
        let d = sheet_few s n sheet (sheet_here s n slots c key sheet is) in
        omega arith;
  }

  pub room_for_here : length slots < 2 ^ 64 → HasRoomFor s sheet_room
  room_for_here few = record { each = λ id. let a = counts_room places_of IsSheet geo_of s slots c.counts sheet_room (λ k. slot_few s n (at slots k) (c.sheets k)) id in omega arith }

  -- a sheet that is held once more is what it was
  pub shared_sheet : (t : ShelfPages) → Shifts s t [] (places_of sheet) → IsSheet t n sheet × (geo_of t n sheet ≡ geo_of s n sheet)
  shared_sheet t shifts =
      let covered = sheet_covered s n slots c key sheet is in
      sheet_kept s t n n [] (places_of sheet) shifts (grows_none n) sheet (λ id h. let a = covered.each id in omega arith) (sheet_here s n slots c key sheet is)

-- nothing changed
pub as_before : (s : ShelfPages) (n : NameTable) (slots now : Keyed SheetLists) (v : VaultMap) → vault_of s n slots ≡ v → now ≡ slots → IsAsBefore v (vault_of s n now)
as_before s n slots now v same is =
    let is_now = ap (vault_of s n) is ∙ same in
    record {
      geos = λ k. ap (λ (w : VaultMap). at w.geos k) is_now;
      held = λ k. ap (λ (w : VaultMap). at w.held k) is_now;
      shares = λ k. ap (λ (w : VaultMap). at w.shares k) is_now;
      pages = ap (λ (w : VaultMap). w.pages) is_now;
      names = subst (λ (m : NameTable). Grows m n) (ap (λ (w : VaultMap). w.names) same) (grows_none n);
    }

-- NO KEY CHANGED

none_behind : {X : Type 0} (xs : Keyed X) → at xs (length xs) ≡ None
none_behind [] = refl
none_behind (x ∷ xs) = none_behind xs

-- names grew, and every page is as it was
module _ (s t : ShelfPages) (n m : NameTable) (slots : Keyed SheetLists) (c : Counted s n slots) (idle : IsNoStep s t n m) (counted : AreCounted t.own) where
  pub idle_counted : Counted t m slots
  idle_counted = step_kept s t n m slots slots c (length slots) None None idle.grows (none_behind slots) (none_behind slots) (λ k ne. refl) idle.shifts counted tt

  pub idle_before : (v : VaultMap) → vault_of s n slots ≡ v → IsAsBefore v (vault_of t m slots)
  idle_before v same =
      let ch = step_changed s t n m slots slots c (length slots) None None idle.grows (none_behind slots) (none_behind slots) (λ k ne. refl) idle.shifts counted None refl in
      subst (λ (w : VaultMap). IsAsBefore w (vault_of t m slots)) same (record {
        geos = λ k. each k (same_or k (length slots)) ch;
        held = λ k. refl;
        shares = λ k. shares_stay s t n m slots slots idle.shifts k refl;
        pages = same_shelf_pages s t c.pages counted idle.shifts;
        names = idle.grows;
      })
    where
      each : (k : ℕ) → (k ≡ length slots) ⊎ (k ≢ length slots) → Changed (vault_of s n slots) (vault_of t m slots) (length slots) None → at (all_seen geo_of t m slots) k ≡ at (all_seen geo_of s n slots) k
      each k (inl e) ch = ap (at (all_seen geo_of t m slots)) e ∙ ch.geos.here ∙ sym (seen_at places_of IsSheet geo_of s n slots (length slots) ∙ ap (option_map (geo_of s n)) (none_behind slots)) ∙ ap (at (all_seen geo_of s n slots)) (sym e)
      each k (inr d) ch = ch.geos.others k d

-- a vault is as it is
pub unchanged : (v : VaultMap) → IsAsBefore v v
unchanged v = record { geos = λ k. refl; held = λ k. refl; shares = λ k. refl; pages = refl; names = grows_none v.names }

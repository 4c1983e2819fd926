-- A table has few places, so that counts have room for them.
use Rattle.std.proofs.Common.{ℕ, ◌*◌, ◌≤◌, List, [], ◌∷◌, length, map, arith, length-append}
use Rattle.std.specs.Prelude.{All, Option, Some, None}
use Rattle.std.proofs.lemmas.Bool.Decides.{nat_tests}
use Rattle.std.proofs.lemmas.List.Elements.{All-head, All-tail}
use Rattle.sop_model.specs.declared.geo.Head.{Head}
use Rattle.sop_model.specs.Limits.{most_vertices}
use Rattle.sop_pages.specs.Moves.{times}
use Rattle.sop_cells.specs.declared.place.Place.{Place}
use Rattle.sop_cells.specs.declared.place.Place.TheVariants.{Own, Base}
use Rattle.sop_cells.specs.Places.{own}
use Rattle.sop_cells.specs.Shelves.{ShelfPages}
use Rattle.sop_columns.specs.Names.{NameTable}
use Rattle.sop_columns.specs.Bits.{placed}
use Rattle.sop_tables.specs.Tables.{TableLists, flat, places_in, AreColumns, AreMembers, IsTable, HasRoom, HasRoomFor, table_room}

length_own : (places : List Place) → length (own places) ≤ length places
length_own [] = omega arith
length_own (Own id ∷ places) = let r = length_own places in omega arith
length_own (Base id ∷ places) = let r = length_own places in omega arith

times_length : (x : ℕ) (ids : List ℕ) → times x ids ≤ length ids
times_length x [] = omega arith
times_length x (id ∷ ids) = let r = times_length x ids in grind (arith, nat_tests)

pub length_placed : (blocks : List (Option Place)) → length (placed blocks) ≤ length blocks
length_placed [] = omega arith
length_placed (None ∷ blocks) = let r = length_placed blocks in omega arith
length_placed (Some place ∷ blocks) = let r = length_placed blocks in omega arith

pub few_columns : (s : ShelfPages) (n : NameTable) (size : ℕ) → size ≤ most_vertices → (heads : List Head) (cs : List (List Place)) → AreColumns s n size heads cs → length (flat cs) ≤ 4000 * length heads
few_columns s n size most [] [] all = omega arith
few_columns s n size most [] (c ∷ cs) all = absurd all
few_columns s n size most (h ∷ heads) [] all = absurd all
few_columns s n size most (h ∷ heads) (c ∷ cs) all =
    let r = few_columns s n size most heads cs all.1 in let t = all.0.tight in let a = length-append c (flat cs) in omega arith

pub few_members : (s : ShelfPages) (size : ℕ) (ms : List (List (Option Place))) → All (AreMembers s size) ms → length (flat (map placed ms)) ≤ 32 * length ms
few_members s size [] all = omega arith
few_members s size (p ∷ ms) all =
    let r = few_members s size ms (All-tail (AreMembers s size) p ms all) in let f = (All-head (AreMembers s size) p ms all).few in let l = length_placed p in
    let a = length-append (placed p) (flat (map placed ms)) in omega arith

-- so many places at most
pub table_few : (s : ShelfPages) (n : NameTable) (tb : TableLists) → IsTable s n tb → length (own (places_in tb)) ≤ table_room
table_few s n tb is =
    let a = few_columns s n tb.count is.most tb.set.heads tb.columns is.columns in
    let b = few_members s tb.count tb.members is.members in
    let c = length-append (flat tb.columns) (flat (map placed tb.members)) in
    let d = length_own (places_in tb) in
    let e = is.few.0 in
    let f = is.few.1.0 in
    let g = is.groups in
    omega arith

-- what counts have room for
pub table_fits : (s : ShelfPages) (n : NameTable) (tb : TableLists) → IsTable s n tb → HasRoomFor s table_room → HasRoom s (places_in tb)
table_fits s n tb is room = record { each = λ id. let a = room.each id in let b = table_few s n tb is in let c = times_length id (own (places_in tb)) in omega arith }

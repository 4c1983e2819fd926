-- Tables made one after the other beside others: each is held, there is room behind them, and for want of memory they are let go again.
use Rattle.std.proofs.Common.{ℕ, ◌^◌, ◌≤◌, List, [], ◌++◌, map, ap, arith}
use Rattle.std.proofs.lemmas.List.{length-map}
use Rattle.sop_pages.specs.Moves.{times}
use Rattle.sop_cells.specs.declared.place.Place.{Place}
use Rattle.sop_cells.specs.declared.place.Place.TheVariants.{Own}
use Rattle.sop_cells.specs.Places.{own}
use Rattle.sop_cells.specs.Shelves.{ShelfPages, Shifts}
use Rattle.sop_cells.proofs.PlaceLemmas.{held-append, based-append, own_of, shifts_then, shifts_more}
use Rattle.sop_columns.specs.Names.{NameTable, Grows}
use Rattle.sop_columns.proofs.NameLemmas.{grows_then}
use Rattle.sop_tables.specs.Tables.{TableLists, places_in, table_room, IsTable, IsHeld, HasRoomFor, IsTableMade, IsNoStep}
use Rattle.sop_tables.proofs.FlatLemmas.{front_held, back_left}
use Rattle.sop_tables.proofs.MadeLemmas.{times_few, still_held, undone, before_none}
use Rattle.sop_tables.proofs.RoomLemmas.{table_few}
use Rattle.sop_tables.proofs.StepLemmas.{table_held, made_held}
use Rattle.sop_sheets.specs.Sheets.{SheetLists, places_of, sheet_room}

-- ROOM

-- a table holds a page so often at most
table_times_few : (id : ℕ) (s : ShelfPages) (n : NameTable) (tb : TableLists) → IsTable s n tb → times id (own (places_in tb)) ≤ table_room
table_times_few id s n tb is =
    let ids = own (places_in tb) in
    let a = times_few id (map Own ids) in
    let b = ap (times id) (own_of ids) in
    let c = length-map ids Own in
    let d = table_few s n tb is in
    omega arith

-- ONE TABLE BESIDE OTHERS

pub room_beside : (s a : ShelfPages) (n m : NameTable) (new : TableLists) → IsTableMade s a n m new → HasRoomFor s (2 ^ 36) → HasRoomFor a table_room
room_beside s a n m new made room = record { each = λ id. let r = room.each id in let c = made.shifts.moves.counts id in let f = table_times_few id a m new made.table in omega arith }

-- nothing came after it, and it is let go
pub one_held : (s a b : ShelfPages) (n m o : NameTable) (new : TableLists) → IsTableMade s a n m new → IsNoStep a b m o → IsHeld b (places_in new)
one_held s a b n m o new made step = still_held a b [] (places_in new) step.shifts (made_held s a n m new made)

pub one_gone : (s a b t : ShelfPages) (n m o : NameTable) (new : TableLists) → IsTableMade s a n m new → IsNoStep a b m o → Shifts b t (places_in new) [] → IsNoStep s t n o
one_gone s a b t n m o new made step gone = record { shifts = undone s b t (places_in new) (before_none s a b (places_in new) made.shifts step.shifts) gone; grows = grows_then n m o made.grows step.grows }

-- TWO TABLES BESIDE OTHERS

module _ (s a : ShelfPages) (n m : NameTable) (new next : TableLists) (shifts : Shifts s a [] (places_in new ++ places_in next)) (grows : Grows n m) (first : IsTable a m new) (second : IsTable a m next) where
  abbrev places : List Place
  places = places_in new ++ places_in next

  pub first_held : IsHeld a (places_in new)
  first_held = table_held a m new first (record { each = λ id. let c = shifts.moves.counts id in let d = held-append id (places_in new) (places_in next) in omega arith })

  pub second_held : IsHeld a (places_in next)
  second_held = table_held a m next second (record { each = λ id. let c = shifts.moves.counts id in let d = held-append id (places_in new) (places_in next) in omega arith })

  both_held : IsHeld a places
  both_held = record {
    covered = record { each = λ id. let c = shifts.moves.counts id in omega arith };
    based = based-append a.base (places_in new) (places_in next) first_held.based second_held.based;
  }

  pub room_behind : HasRoomFor s sheet_room → HasRoomFor a (2 ^ 36)
  room_behind room = record {
    each = λ id.
        let r = room.each id in let c = shifts.moves.counts id in let d = held-append id (places_in new) (places_in next) in
        let f = table_times_few id a m new first in let g = table_times_few id a m next second in omega arith;
  }

  -- nothing came after them, and both are let go
  module _ (b : ShelfPages) (o : NameTable) (step : IsNoStep a b m o) where
    still : IsHeld b places
    still = still_held a b [] places step.shifts both_held

    pub first_goes : IsHeld b (places_in new)
    first_goes = front_held b b (places_in new) (places_in next) still

    pub second_goes : (c : ShelfPages) → Shifts b c (places_in new) [] → IsHeld c (places_in next)
    second_goes c gone = back_left b c (places_in new) (places_in next) still gone

    pub both_gone : (c d : ShelfPages) → Shifts b c (places_in new) [] → Shifts c d (places_in next) [] → IsNoStep s d n o
    both_gone c d gone then = record {
      shifts = undone s b d places (before_none s a b places shifts step.shifts) (shifts_then b c d (places_in new) (places_in next) [] [] gone then);
      grows = grows_then n m o grows step.grows;
    }

-- FOUR

-- two and two are the places of a sheet
pub four_shifts : (s a t : ShelfPages) (sheet : SheetLists) → Shifts s a [] (places_in sheet.detail ++ places_in sheet.prim) → Shifts a t [] (places_in sheet.point ++ places_in sheet.vertex) → Shifts s t [] (places_of sheet)
four_shifts s a t sheet front back =
    let D = places_in sheet.detail in let P = places_in sheet.prim in let O = places_in sheet.point in let V = places_in sheet.vertex in
    shifts_more s t [] ((D ++ P) ++ (O ++ V)) [] (places_of sheet) (shifts_then s a t [] [] (D ++ P) (O ++ V) front back) (λ x. omega arith)
    (λ x. let e = held-append x (D ++ P) (O ++ V) in let f = held-append x D P in let g = held-append x D (P ++ (O ++ V)) in let h = held-append x P (O ++ V) in omega arith)

-- Four lots of places, held one after the other, or let go.
use Rattle.std.proofs.Common.{List, [], ◌++◌}
use Rattle.sop_cells.specs.declared.place.Place.{Place}
use Rattle.sop_cells.specs.Shelves.{ShelfPages, Shifts}
use Rattle.sop_cells.proofs.PlaceLemmas.{shifts_then}
use Rattle.sop_tables.specs.Tables.{IsHeld, HasRoom}
use Rattle.sop_tables.proofs.FlatLemmas.{front_held, front_room, back_held, back_room, back_left}

module _ (A B C D : List Place) (s0 s1 s2 s3 s4 : ShelfPages) where
  abbrev four : List Place
  four = A ++ (B ++ (C ++ D))

  -- each is held in its turn, and there is room for it
  pub held_one : IsHeld s0 four → IsHeld s0 A
  held_one h = front_held s0 s0 A (B ++ (C ++ D)) h

  pub room_one : HasRoom s0 four → HasRoom s0 A
  room_one r = front_room s0 s0 A (B ++ (C ++ D)) r

  after_one : IsHeld s0 four → Shifts s0 s1 [] A → IsHeld s1 (B ++ (C ++ D))
  after_one h a = back_held s0 s1 A (B ++ (C ++ D)) h a

  spare_one : HasRoom s0 four → Shifts s0 s1 [] A → HasRoom s1 (B ++ (C ++ D))
  spare_one r a = back_room s0 s1 A (B ++ (C ++ D)) r a

  pub held_two : IsHeld s0 four → Shifts s0 s1 [] A → IsHeld s1 B
  held_two h a = front_held s1 s1 B (C ++ D) (after_one h a)

  pub room_two : HasRoom s0 four → Shifts s0 s1 [] A → HasRoom s1 B
  room_two r a = front_room s1 s1 B (C ++ D) (spare_one r a)

  after_two : IsHeld s0 four → Shifts s0 s1 [] A → Shifts s1 s2 [] B → IsHeld s2 (C ++ D)
  after_two h a b = back_held s1 s2 B (C ++ D) (after_one h a) b

  spare_two : HasRoom s0 four → Shifts s0 s1 [] A → Shifts s1 s2 [] B → HasRoom s2 (C ++ D)
  spare_two r a b = back_room s1 s2 B (C ++ D) (spare_one r a) b

  pub held_three : IsHeld s0 four → Shifts s0 s1 [] A → Shifts s1 s2 [] B → IsHeld s2 C
  held_three h a b = front_held s2 s2 C D (after_two h a b)

  pub room_three : HasRoom s0 four → Shifts s0 s1 [] A → Shifts s1 s2 [] B → HasRoom s2 C
  room_three r a b = front_room s2 s2 C D (spare_two r a b)

  pub held_four : IsHeld s0 four → Shifts s0 s1 [] A → Shifts s1 s2 [] B → Shifts s2 s3 [] C → IsHeld s3 D
  held_four h a b c = back_held s2 s3 C D (after_two h a b) c

  pub room_four : HasRoom s0 four → Shifts s0 s1 [] A → Shifts s1 s2 [] B → Shifts s2 s3 [] C → HasRoom s3 D
  room_four r a b c = back_room s2 s3 C D (spare_two r a b) c

  pub all_come : Shifts s0 s1 [] A → Shifts s1 s2 [] B → Shifts s2 s3 [] C → Shifts s3 s4 [] D → Shifts s0 s4 [] four
  all_come a b c d = shifts_then s0 s1 s4 [] [] A (B ++ (C ++ D)) a (shifts_then s1 s2 s4 [] [] B (C ++ D) b (shifts_then s2 s3 s4 [] [] C D c d))

  -- each is let go in its turn
  left_one : IsHeld s0 four → Shifts s0 s1 A [] → IsHeld s1 (B ++ (C ++ D))
  left_one h a = back_left s0 s1 A (B ++ (C ++ D)) h a

  pub left_two : IsHeld s0 four → Shifts s0 s1 A [] → IsHeld s1 B
  left_two h a = front_held s1 s1 B (C ++ D) (left_one h a)

  left_behind : IsHeld s0 four → Shifts s0 s1 A [] → Shifts s1 s2 B [] → IsHeld s2 (C ++ D)
  left_behind h a b = back_left s1 s2 B (C ++ D) (left_one h a) b

  pub left_three : IsHeld s0 four → Shifts s0 s1 A [] → Shifts s1 s2 B [] → IsHeld s2 C
  left_three h a b = front_held s2 s2 C D (left_behind h a b)

  pub left_four : IsHeld s0 four → Shifts s0 s1 A [] → Shifts s1 s2 B [] → Shifts s2 s3 C [] → IsHeld s3 D
  left_four h a b c = back_left s2 s3 C D (left_behind h a b) c

  pub all_go : Shifts s0 s1 A [] → Shifts s1 s2 B [] → Shifts s2 s3 C [] → Shifts s3 s4 D [] → Shifts s0 s4 four []
  all_go a b c d = shifts_then s0 s1 s4 A (B ++ (C ++ D)) [] [] a (shifts_then s1 s2 s4 B (C ++ D) [] [] b (shifts_then s2 s3 s4 C D [] [] c d))

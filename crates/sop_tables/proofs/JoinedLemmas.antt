-- Columns and members made of those of two tables.
use Rattle.std.proofs.Common.{◌≡◌, ℕ, zero, suc, ◌+◌, ◌-◌, ◌^◌, ◌<◌, ◌≤◌, Bool, true, false, List, [], ◌∷◌, ◌++◌, length, map, take, replicate, refl, ap, sym, ◌∙◌, subst, arith, length-append, append-nil}
use Rattle.std.specs.Prelude.{All, nat_lt, slice_get, None, Option, Result, Ok, Err, IfOk, OnErr, if◌then◌else◌}
use Rattle.std.proofs.lemmas.List.{length-map, length-replicate, take_all}
use Rattle.std.proofs.lemmas.Bool.Decides.{nat_tests}
use Rattle.sop_model.specs.declared.geo.Head.{Head}
use Rattle.sop_model.specs.declared.value.Kind.{Kind}
use Rattle.sop_model.specs.declared.value.Value.{Value}
use Rattle.sop_model.specs.Limits.{most_vertices}
use Rattle.sop_model.specs.Values.{kind_of, default_of}
use Rattle.sop_pages.specs.Pages.{count}
use Rattle.sop_pages.specs.Moves.{times}
use Rattle.sop_cells.specs.declared.place.Place.{Place}
use Rattle.sop_cells.specs.Places.{own}
use Rattle.sop_cells.specs.Shelves.{ShelfPages, column, Shifts}
use Rattle.sop_columns.specs.Names.{NameTable, value_of, Grows}
use Rattle.sop_columns.specs.Values.{values, IsColumn}
use Rattle.sop_columns.specs.Fitted.{fitted_to}
use Rattle.sop_columns.specs.Bits.{flag, placed, AreBits, AreJoined}
use Rattle.sop_columns.proofs.NameLemmas.{grows_none, grows_then}
use Rattle.sop_columns.proofs.FittedLemmas.{fitted_own}
use Rattle.sop_tables.specs.Tables.{held, IsHeld, HasRoomFor, IsColumnOf, IsNoStep}
use Rattle.sop_tables.specs.Changes.{IsNewColumn, IsNewMembers}
use Rattle.sop_tables.proofs.KeptLemmas.{Beside, values_kept, column_of_kept}
use Rattle.sop_tables.proofs.ColumnLemmas.{column_made, length-held}
use Rattle.sop_tables.proofs.BesideLemmas.{group_made, column_few}
use Rattle.sop_tables.proofs.MadeLemmas.{undone, before_none, times_few}

-- A NEW COLUMN OF WHOLE VALUES

module _ (s t : ShelfPages) (n m : NameTable) (size : ℕ) (h : Head) (vs : List Value) (new : List Place) where
  pub whole_made : Shifts s t [] new → Grows n m → IsColumn t m new → values t m new ≡ vs → length vs ≡ size → IsNewColumn s t n m size h vs new
  whole_made shifts grows made is long =
      let a = ap (λ (ws : List Value). length ws) is in let b = length-map (column t new) (value_of m) in
      record {
        shifts = shifts;
        grows = grows;
        column = column_made t m size (default_of h.kind) new made (omega arith);
        values = take_all size (values t m new) (omega arith) ∙ is;
      }

  -- it holds its pages
  pub new_held : IsNewColumn s t n m size h vs new → IsHeld t new
  new_held made = record { covered = record { each = λ x. let a = made.shifts.moves.counts x in omega arith }; based = made.column.based }

  pub new_few : size ≤ most_vertices → IsNewColumn s t n m size h vs new → length new ≤ 4096
  new_few most made = column_few t m size (default_of h.kind) new made.column most

-- the same values told otherwise
pub told_as : (s t : ShelfPages) (n m : NameTable) (size : ℕ) (h : Head) (vs ws : List Value) (new : List Place) → vs ≡ ws → IsNewColumn s t n m size h vs new → IsNewColumn s t n m size h ws new
told_as s t n m size h vs ws new same made = subst (λ (us : List Value). IsNewColumn s t n m size h us new) same made

-- nothing came behind
pub as_it_was : {E : Type 0} (r : Result (List Place) E) (s t : ShelfPages) (n m : NameTable) (size : ℕ) (h : Head) (vs ws : List Value) → vs ≡ ws → IfOk r (IsNewColumn s t n m (size + 0) h vs) → IfOk r (IsNewColumn s t n m size h ws)
as_it_was (Ok new) s t n m size h vs ws same made =
    let whole : size + 0 ≡ size = omega arith in subst (λ (k : ℕ). IsNewColumn s t n m k h ws new) whole (told_as s t n m (size + 0) h vs ws new same made)
as_it_was (Err e) s t n m size h vs ws same made = tt

-- there is no column of that number
pub nothing_there : {X : Type 0} (xs : List X) (k : ℕ) → length xs ≤ k → slice_get xs k ≡ None
nothing_there [] k far = refl
nothing_there (x ∷ xs) zero far = absurd (omega arith)
nothing_there (x ∷ xs) (suc k) far = nothing_there xs k (omega arith)

-- VALUES PUT UNDER A HEAD

own_fitted : (kind : Kind) (vs : List Value) → All (λ v. kind_of v ≡ kind) vs → map (fitted_to kind) vs ≡ vs
own_fitted kind [] all = refl
own_fitted kind (v ∷ vs) all =
    let here = sym (fitted_own kind v (Rattle.std.proofs.lemmas.List.Elements.All-head (λ w. kind_of w ≡ kind) v vs all)) in
    let rest = own_fitted kind vs (Rattle.std.proofs.lemmas.List.Elements.All-tail (λ w. kind_of w ≡ kind) v vs all) in λ j. here j ∷ rest j

-- of the head's own kind they are what they were
pub fitted_same : (s t : ShelfPages) (n m : NameTable) (size : ℕ) (own : Kind) (h : Head) (vs : List Value) (new : List Place) → own ≡ h.kind → All (λ v. kind_of v ≡ own) vs
    → IsNewColumn s t n m (size + 0) h (vs ++ replicate 0 (default_of h.kind)) new → IsNewColumn s t n m size h (map (fitted_to h.kind) vs) new
fitted_same s t n m size own h vs new same kinds made =
    let whole : size + 0 ≡ size = omega arith in
    let is = append-nil vs ∙ sym (own_fitted h.kind vs (subst (λ (k : Kind). All (λ v. kind_of v ≡ k) vs) same kinds)) in
    subst (λ (k : ℕ). IsNewColumn s t n m k h (map (fitted_to h.kind) vs) new) whole (told_as s t n m (size + 0) h (vs ++ replicate 0 (default_of h.kind)) (map (fitted_to h.kind) vs) new is made)

-- JOINED

pub joined_room : (s : ShelfPages) (first second : List Place) → length first ≤ 4096 → length second ≤ 4096 → HasRoomFor s (2 ^ 20) → (id : ℕ) → count s.own id + times id (own first) + times id (own second) < 2 ^ 128
joined_room s first second a b room id = let r = room.each id in let c = times_few id first in let d = times_few id second in omega arith

pub joined_long : (s : ShelfPages) (n : NameTable) (a b : ℕ) (d e : Value) (first second : List Place) → IsColumnOf s n a d first → IsColumnOf s n b e second → length (held s n a first ++ held s n b second) ≡ a + b
joined_long s n a b d e first second one two =
    let x = length-held s n a d first one in let y = length-held s n b e second two in let z = length-append (held s n a first) (held s n b second) in omega arith

-- HELP THAT IS LET GO

-- places came to help, something was made, and the help went
module _ (s t u w : ShelfPages) (n m o : NameTable) (help : List Place) (came : Shifts s t [] help) (grew : Grows n m) (went : Shifts u w help []) where
  pub helped : (size : ℕ) (h : Head) (vs : List Value) (new : List Place) → IsNewColumn t u m o size h vs new → IsNewColumn s w n o size h vs new
  helped size h vs new made =
      let beside : Beside u w help [] o o new = record { free = λ x l. let a = came.moves.counts x in let b = made.shifts.moves.counts x in omega arith } in
      record {
        shifts = record {
          base = went.base ∙ made.shifts.base ∙ came.base;
          moves = record {
            counts = λ x. let a = came.moves.counts x in let b = made.shifts.moves.counts x in let c = went.moves.counts x in omega arith;
            kept = λ x l. let a = came.moves.counts x in let b = made.shifts.moves.counts x in
                went.moves.kept x (omega arith) ∙ made.shifts.moves.kept x (omega arith) ∙ came.moves.kept x l;
          };
        };
        grows = grows_then n m o grew made.grows;
        column = column_of_kept u w help [] o o went (grows_none o) size (default_of h.kind) new beside made.column;
        values = ap (take size) (values_kept u w help [] o o went (grows_none o) new beside made.column.numbered) ∙ made.values;
      }

  pub helped_none : IsNoStep t u m o → IsNoStep s w n o
  helped_none none = record { shifts = undone s u w help (before_none s t u help came none.shifts) went; grows = grows_then n m o grew none.grows }

  pub helped_all : {E : Type 0} (r : Result (List Place) E) (size : ℕ) (h : Head) (vs ws : List Value) → vs ≡ ws → IfOk r (IsNewColumn t u m o size h vs) → IfOk r (IsNewColumn s w n o size h ws)
  helped_all (Ok new) size h vs ws same made = told_as s w n o size h vs ws new same (helped size h vs new made)
  helped_all (Err e) size h vs ws same made = tt

  pub helped_err : {E : Type 0} (r : Result (List Place) E) → OnErr r (IsNoStep t u m o) → OnErr r (IsNoStep s w n o)
  helped_err (Ok new) none = tt
  helped_err (Err e) none = helped_none none

-- MEMBERS

pub joined_group : (s t : ShelfPages) (a b : ℕ) (first second : List (Option Place)) (has other : ℕ → Bool) (new : List (Option Place)) → a + b ≤ most_vertices → ((i : ℕ) → flag s first i ≡ has i) → ((i : ℕ) → flag s second i ≡ other i)
    → Shifts s t [] (placed new) → AreBits t new → AreJoined (flag t new) (flag s first) a (flag s second) b → length new ≤ 31 → IsNewMembers s t (a + b) (λ i. if nat_lt i a then has i else other (i - a)) new
joined_group s t a b first second has other new most one two shifts bits joined few =
    group_made s t (a + b) (λ i. if nat_lt i a then has i else other (i - a)) new most shifts bits here (λ i l. joined.beyond_are i l) few
  where
    by : (i : ℕ) (c : Bool) → nat_lt i a ≡ c → i < a + b → flag t new i ≡ (if c then has i else other (i - a))
    by i true e l = joined.before_are i (grind (arith, nat_tests, e)) ∙ one i
    by i false e l =
        let far : a ≤ i = grind (arith, nat_tests, e) in
        let place : a + (i - a) ≡ i = omega arith in
        sym (ap (flag t new) place) ∙ joined.more_are (i - a) (omega arith) ∙ two (i - a)

    here : (i : ℕ) → i < a + b → flag t new i ≡ (if nat_lt i a then has i else other (i - a))
    here i l = by i (nat_lt i a) refl l

-- The rows of a class changed one after the other: one more, the last, and a stop.
use Rattle.std.proofs.Common.{◌≡◌, ℕ, suc, ◌+◌, ◌<◌, ◌≤◌, List, [], ◌∷◌, ◌++◌, length, drop, get_or, refl, sym, ap, ◌∙◌, subst, arith, append_assoc, length-append, length-drop}
use Rattle.std.specs.Prelude.{Some, Ok, Err}
use Rattle.sop_model.specs.declared.class.Class.{Class}
use Rattle.sop_model.specs.declared.geo.Geo.{Geo}
use Rattle.sop_model.specs.declared.geo.Row.{Row}
use Rattle.sop_model.specs.declared.fault.CookStop.{CookStop}
use Rattle.sop_model.specs.declared.fault.CookStop.TheVariants as stop
use Rattle.sop_model.specs.Geometry.{empty_row, heads_of, rows_of, count_of}
use Rattle.sop_model.specs.Rows.{changed_at, with_rows}
use Rattle.sop_rows.proofs.ClassRows.{rows_of-with_rows, heads_of-with_rows}
use Rattle.sop_columns.proofs.NameLemmas.{grows_none}
use Rattle.sop_vault.specs.Keyed.{at, IsLive}
use Rattle.sop_vault.specs.Vaults.{VaultMap, Changed}
use Rattle.sop_basic.specs.Making.{Makes}
use Rattle.sop_basic.proofs.MakingLemmas.{changed_then, touched_changed, touched_then, same_there, live_of}
use Rattle.sop_basic.proofs.MovementLemmas.{split_at, changed_behind, drop_all}
use Rattle.sop_basic.proofs.RowsLemmas.{with_rows_twice, with_rows_own}
use Rattle.sop_combine.specs.Marked.{Change, rows_changed, class_changed}

-- so many rows were changed: those in front are, and the others come to the whole
pub record IsChanging (change : Change) (class : Class) (g : Geo) (old now : VaultMap) (key i : ℕ) : Type 0 where
  pub front : List Row
  pub many : length front ≡ i
  pub state : Changed old now key (Some (with_rows g class (front ++ drop i (rows_of g class))))
  pub whole : front ++ rows_changed change i (drop i (rows_of g class)) ≡ rows_changed change 0 (rows_of g class)

module _ (change : Change) (class : Class) (g : Geo) where
  pub changing_none : (v : VaultMap) (key : ℕ) → at v.geos key ≡ Some g → IsChanging change class g v v key 0
  changing_none v key there = record {
    front = [];
    many = refl;
    state = record { geos = record { here = there ∙ ap Some (sym (with_rows_own g class)); others = λ other apart. refl }; held = λ other apart. refl; names = grows_none v.names };
    whole = refl;
  }

  module _ (old now : VaultMap) (key i : ℕ) (m : IsChanging change class g old now key i) where
    abbrev rows_now : List Row
    rows_now = m.front ++ drop i (rows_of g class)

    long : i ≤ count_of g class → length rows_now ≡ count_of g class
    long le = omega (arith, m.many, length-append m.front (drop i (rows_of g class)), length-drop i (rows_of g class), le)

    pub changing_live : IsLive now.geos key
    changing_live = live_of now key (with_rows g class rows_now) m.state.geos.here

    pub changing_there : i < count_of g class → (h : Geo) → at now.geos key ≡ Some h → i < count_of h class
    changing_there lt h there =
        let same = same_there (at now.geos key) (with_rows g class rows_now) h m.state.geos.here there in
        let rows = ap (λ (rs : List Row). length rs) (rows_of-with_rows g class rows_now (long (omega (arith, lt)))) in
        let count = ap (λ (x : Geo). count_of x class) same in
        omega (arith, lt, rows, count, long (omega (arith, lt)))

    -- heads and groups stay
    pub changing_heads : (h : Geo) → at now.geos key ≡ Some h → heads_of h class ≡ heads_of g class
    changing_heads h there =
        let same = same_there (at now.geos key) (with_rows g class rows_now) h m.state.geos.here there in
        subst (λ (x : Geo). heads_of x class ≡ heads_of g class) same (heads_of-with_rows g class rows_now class)

    pub changing_stopped : (new : VaultMap) (s : CookStop) (outcome : Geo) (after : Geo → Geo) → ((h : Geo) → at now.geos key ≡ Some h → Makes now new key (Ok (after h)) (Err s)) → Makes old new key (Ok outcome) (Err s)
    changing_stopped new (stop.Fault f) outcome after step = let (made, ended) = step (with_rows g class rows_now) m.state.geos.here in absurd (cc)
    changing_stopped new stop.Memory outcome after step = touched_then old now new key (touched_changed old now key (with_rows g class rows_now) m.state) (step (with_rows g class rows_now) m.state.geos.here)

    pub changing_done : i ≡ count_of g class → Makes old now key (Ok (class_changed change g class)) (Ok tt)
    changing_done all =
        let none : drop i (rows_of g class) ≡ [] = ap (λ k. drop k (rows_of g class)) all ∙ drop_all (rows_of g class) in
        let last : rows_now ≡ rows_changed change 0 (rows_of g class) = ap (λ rs. m.front ++ rs) none ∙ sym (ap (λ rs. m.front ++ rows_changed change i rs) none) ∙ m.whole in
        (class_changed change g class, refl, subst (λ rs. Changed old now key (Some (with_rows g class rs))) last m.state)

    module _ (lt : i < count_of g class) (new : VaultMap) where
      abbrev row_here : Row
      row_here = get_or (rows_of g class) i empty_row

      abbrev left : List Row
      left = drop (suc i) (rows_of g class)

      abbrev new_row : Row
      new_row = change i row_here

      cut : drop i (rows_of g class) ≡ row_here ∷ left
      cut = split_at (rows_of g class) i empty_row lt

      rows_next : changed_at (change i) rows_now i ≡ (m.front ++ new_row ∷ []) ++ left
      rows_next =
          ap (λ rs. changed_at (change i) (m.front ++ rs) i) cut ∙ ap (changed_at (change i) (m.front ++ row_here ∷ left)) (sym m.many)
          ∙ changed_behind (change i) m.front left row_here

      next_long : length ((m.front ++ new_row ∷ []) ++ left) ≡ count_of g class
      next_long = omega (arith, m.many, lt, length-append (m.front ++ new_row ∷ []) left, length-append m.front (new_row ∷ []), length-drop (suc i) (rows_of g class))

      change_is : with_rows (with_rows g class rows_now) class (changed_at (change i) (rows_of (with_rows g class rows_now) class) i) ≡ with_rows g class ((m.front ++ new_row ∷ []) ++ left)
      change_is =
          ap (λ rs. with_rows (with_rows g class rows_now) class (changed_at (change i) rs i)) (rows_of-with_rows g class rows_now (long (omega (arith, lt))))
          ∙ ap (with_rows (with_rows g class rows_now) class) rows_next ∙ with_rows_twice g class rows_now ((m.front ++ new_row ∷ []) ++ left) next_long

      pub changing_more : ((h : Geo) → at now.geos key ≡ Some h → Makes now new key (Ok (with_rows h class (changed_at (change i) (rows_of h class) i))) (Ok tt)) → IsChanging change class g old new key (i + 1)
      changing_more step =
          let (h, made, ch) = step (with_rows g class rows_now) m.state.geos.here in
          let same : h ≡ with_rows g class ((m.front ++ new_row ∷ []) ++ left) = (let e : with_rows (with_rows g class rows_now) class (changed_at (change i) (rows_of (with_rows g class rows_now) class) i) ≡ h = cc in sym e) ∙ change_is in
          let next : suc i ≡ i + 1 = omega arith in
          let state = changed_then old now new key (Some (with_rows g class rows_now)) (Some (with_rows g class ((m.front ++ new_row ∷ []) ++ left))) m.state (subst (λ (x : Geo). Changed now new key (Some x)) same ch) in
          record {
            front = m.front ++ new_row ∷ [];
            many = omega (arith, m.many, length-append m.front (new_row ∷ []));
            state = subst (λ k. Changed old new key (Some (with_rows g class ((m.front ++ new_row ∷ []) ++ drop k (rows_of g class))))) next state;
            whole = ap (λ k. (m.front ++ new_row ∷ []) ++ rows_changed change k (drop k (rows_of g class))) (sym next)
                ∙ append_assoc m.front (new_row ∷ []) (rows_changed change (suc i) left)
                ∙ sym (ap (λ rs. m.front ++ rows_changed change i rs) cut) ∙ m.whole;
          }

-- The values of an attribute set at the selected elements one after the other: one more, one that is left out, the last, and a stop.
use Rattle.std.proofs.Common.{◌≡◌, ℕ, suc, Bool, true, false, ◌+◌, ◌<◌, ◌≤◌, List, [], ◌∷◌, ◌++◌, length, drop, get_or, refl, sym, ap, ◌∙◌, subst, arith, append_assoc, length-append, length-drop}
use Rattle.std.specs.Prelude.{Some, Ok, Err, option_map, slice_get}
use Rattle.sop_model.specs.declared.class.Class.{Class}
use Rattle.sop_model.specs.declared.geo.Geo.{Geo}
use Rattle.sop_model.specs.declared.geo.Row.{Row}
use Rattle.sop_model.specs.declared.geo.HeadSet.{HeadSet}
use Rattle.sop_model.specs.declared.fault.CookStop.{CookStop}
use Rattle.sop_model.specs.declared.fault.CookStop.TheVariants as stop
use Rattle.sop_model.specs.declared.value.Kind.{Kind}
use Rattle.sop_model.specs.declared.value.Value.{Value}
use Rattle.sop_model.specs.Geometry.{empty_row, rows_of, count_of}
use Rattle.sop_model.specs.Rows.{with_value, changed_at, value_set, with_rows, kind_at}
use Rattle.sop_rows.proofs.ClassRows.{rows_of-with_rows, heads_of-with_rows}
use Rattle.sop_columns.proofs.NameLemmas.{grows_none}
use Rattle.sop_vault.specs.Keyed.{at, IsLive}
use Rattle.sop_vault.specs.Vaults.{VaultMap, Changed}
use Rattle.sop_basic.specs.Making.{Makes}
use Rattle.sop_basic.specs.Fillings.{rows_filled, filled}
use Rattle.sop_basic.proofs.MakingLemmas.{changed_then, touched_changed, touched_then, same_there, live_of}
use Rattle.sop_basic.proofs.MovementLemmas.{split_at, changed_behind, drop_all}
use Rattle.sop_basic.proofs.RowsLemmas.{with_rows_twice, with_rows_own}

-- so many elements are done, k of which are selected
pub record IsFilling (values : ℕ → Value) (class : Class) (head : ℕ) (flags : List Bool) (g : Geo) (old now : VaultMap) (key i k : ℕ) : Type 0 where
  pub front : List Row
  pub many : length front ≡ i
  pub few : k ≤ i
  pub state : Changed old now key (Some (with_rows g class (front ++ drop i (rows_of g class))))
  pub whole : front ++ rows_filled values head k (drop i flags) (drop i (rows_of g class)) ≡ rows_filled values head 0 flags (rows_of g class)

none_filled : (values : ℕ → Value) (head k : ℕ) (flags : List Bool) → rows_filled values head k flags [] ≡ []
none_filled values head k [] = refl
none_filled values head k (on ∷ flags) = refl

module _ (values : ℕ → Value) (class : Class) (head : ℕ) (flags : List Bool) (g : Geo) where
  pub filling_none : (v : VaultMap) (key : ℕ) → at v.geos key ≡ Some g → IsFilling values class head flags g v v key 0 0
  filling_none v key there = record {
    front = [];
    many = refl;
    few = omega arith;
    state = record { geos = record { here = there ∙ ap Some (sym (with_rows_own g class)); others = λ other apart. refl }; held = λ other apart. refl; names = grows_none v.names };
    whole = refl;
  }

  module _ (old now : VaultMap) (key i k : ℕ) (m : IsFilling values class head flags g old now key i k) where
    abbrev rows_now : List Row
    rows_now = m.front ++ drop i (rows_of g class)

    long : i ≤ count_of g class → length rows_now ≡ count_of g class
    long le = omega (arith, m.many, length-append m.front (drop i (rows_of g class)), length-drop i (rows_of g class), le)

    pub filling_live : IsLive now.geos key
    filling_live = live_of now key (with_rows g class rows_now) m.state.geos.here

    pub filling_there : i < count_of g class → (h : Geo) → at now.geos key ≡ Some h → i < count_of h class
    filling_there lt h there =
        let same = same_there (at now.geos key) (with_rows g class rows_now) h m.state.geos.here there in
        let rows = ap (λ (rs : List Row). length rs) (rows_of-with_rows g class rows_now (long (omega (arith, lt)))) in
        let count = ap (λ (x : Geo). count_of x class) same in
        omega (arith, lt, rows, count, long (omega (arith, lt)))

    pub filling_kind : (kind : Kind) → kind_at g class head ≡ Some kind → (h : Geo) → at now.geos key ≡ Some h → kind_at h class head ≡ Some kind
    filling_kind kind is h there =
        let same = same_there (at now.geos key) (with_rows g class rows_now) h m.state.geos.here there in
        subst (λ (x : Geo). kind_at x class head ≡ Some kind) same (ap (λ (set : HeadSet). option_map (λ h. h.kind) (slice_get set.heads head)) (heads_of-with_rows g class rows_now class) ∙ is)

    pub filling_stopped : (new : VaultMap) (s : CookStop) (outcome : Geo) → ((h : Geo) → at now.geos key ≡ Some h → Makes now new key (Ok (value_set h class head i (values k))) (Err s)) → Makes old new key (Ok outcome) (Err s)
    filling_stopped new (stop.Fault f) outcome step = let (made, ended) = step (with_rows g class rows_now) m.state.geos.here in absurd (cc)
    filling_stopped new stop.Memory outcome step = touched_then old now new key (touched_changed old now key (with_rows g class rows_now) m.state) (step (with_rows g class rows_now) m.state.geos.here)

    pub filling_done : i ≡ count_of g class → Makes old now key (Ok (filled values class head flags g)) (Ok tt)
    filling_done all =
        let none : drop i (rows_of g class) ≡ [] = ap (λ n. drop n (rows_of g class)) all ∙ drop_all (rows_of g class) in
        let rest : rows_filled values head k (drop i flags) (drop i (rows_of g class)) ≡ [] = ap (rows_filled values head k (drop i flags)) none ∙ none_filled values head k (drop i flags) in
        let last : rows_now ≡ rows_filled values head 0 flags (rows_of g class) = ap (λ rs. m.front ++ rs) none ∙ sym (ap (λ rs. m.front ++ rs) rest) ∙ m.whole in
        (filled values class head flags g, refl, subst (λ rs. Changed old now key (Some (with_rows g class rs))) last m.state)

    module _ (lt : i < count_of g class) (each : length flags ≡ count_of g class) where
      abbrev row_here : Row
      row_here = get_or (rows_of g class) i empty_row

      abbrev left : List Row
      left = drop (suc i) (rows_of g class)

      cut : drop i (rows_of g class) ≡ row_here ∷ left
      cut = split_at (rows_of g class) i empty_row lt

      next : suc i ≡ i + 1
      next = omega arith

      -- what is left to fill, by the flag of the element
      rest_by : (on : Bool) → get_or flags i false ≡ on → rows_filled values head k (drop i flags) (drop i (rows_of g class)) ≡ rows_filled values head k (on ∷ drop (suc i) flags) (row_here ∷ left)
      rest_by on is = ap (λ fs. rows_filled values head k fs (drop i (rows_of g class))) (split_at flags i false (omega (arith, lt, each)) ∙ ap (λ b. b ∷ drop (suc i) flags) is) ∙ ap (rows_filled values head k (on ∷ drop (suc i) flags)) cut

      -- an element that isn't selected
      pub filling_less : get_or flags i false ≡ false → IsFilling values class head flags g old now key (i + 1) k
      filling_less off =
          let again : m.front ++ drop i (rows_of g class) ≡ (m.front ++ row_here ∷ []) ++ left = ap (λ rs. m.front ++ rs) cut ∙ sym (append_assoc m.front (row_here ∷ []) left) in
          record {
            front = m.front ++ row_here ∷ [];
            many = omega (arith, m.many, length-append m.front (row_here ∷ []));
            few = let few = m.few in omega arith;
            state = subst (λ n. Changed old now key (Some (with_rows g class ((m.front ++ row_here ∷ []) ++ drop n (rows_of g class))))) next (subst (λ rs. Changed old now key (Some (with_rows g class rs))) again m.state);
            whole = ap (λ n. (m.front ++ row_here ∷ []) ++ rows_filled values head k (drop n flags) (drop n (rows_of g class))) (sym next)
                ∙ append_assoc m.front (row_here ∷ []) (rows_filled values head k (drop (suc i) flags) left)
                ∙ sym (ap (λ rs. m.front ++ rs) (rest_by false off)) ∙ m.whole;
          }

      module _ (on : get_or flags i false ≡ true) (new : VaultMap) where
        abbrev new_row : Row
        new_row = with_value head (values k) row_here

        rows_next : changed_at (with_value head (values k)) rows_now i ≡ (m.front ++ new_row ∷ []) ++ left
        rows_next =
            ap (λ rs. changed_at (with_value head (values k)) (m.front ++ rs) i) cut ∙ ap (changed_at (with_value head (values k)) (m.front ++ row_here ∷ left)) (sym m.many)
            ∙ changed_behind (with_value head (values k)) m.front left row_here

        next_long : length ((m.front ++ new_row ∷ []) ++ left) ≡ count_of g class
        next_long = omega (arith, m.many, lt, length-append (m.front ++ new_row ∷ []) left, length-append m.front (new_row ∷ []), length-drop (suc i) (rows_of g class))

        set_is : value_set (with_rows g class rows_now) class head i (values k) ≡ with_rows g class ((m.front ++ new_row ∷ []) ++ left)
        set_is =
            ap (λ rs. with_rows (with_rows g class rows_now) class (changed_at (with_value head (values k)) rs i)) (rows_of-with_rows g class rows_now (long (omega (arith, lt))))
            ∙ ap (with_rows (with_rows g class rows_now) class) rows_next ∙ with_rows_twice g class rows_now ((m.front ++ new_row ∷ []) ++ left) next_long

        pub filling_more : ((h : Geo) → at now.geos key ≡ Some h → Makes now new key (Ok (value_set h class head i (values k))) (Ok tt)) → IsFilling values class head flags g old new key (i + 1) (k + 1)
        filling_more step =
            let (h, made, ch) = step (with_rows g class rows_now) m.state.geos.here in
            let same : h ≡ with_rows g class ((m.front ++ new_row ∷ []) ++ left) = (let e : value_set (with_rows g class rows_now) class head i (values k) ≡ h = cc in sym e) ∙ set_is in
            let one : suc k ≡ k + 1 = omega arith in
            let state = changed_then old now new key (Some (with_rows g class rows_now)) (Some (with_rows g class ((m.front ++ new_row ∷ []) ++ left))) m.state (subst (λ (x : Geo). Changed now new key (Some x)) same ch) in
            record {
              front = m.front ++ new_row ∷ [];
              many = omega (arith, m.many, length-append m.front (new_row ∷ []));
              few = let few = m.few in omega arith;
              state = subst (λ n. Changed old new key (Some (with_rows g class ((m.front ++ new_row ∷ []) ++ drop n (rows_of g class))))) next state;
              whole = ap (λ n. (m.front ++ new_row ∷ []) ++ rows_filled values head n (drop (i + 1) flags) (drop (i + 1) (rows_of g class))) (sym one)
                  ∙ ap (λ n. (m.front ++ new_row ∷ []) ++ rows_filled values head (suc k) (drop n flags) (drop n (rows_of g class))) (sym next)
                  ∙ append_assoc m.front (new_row ∷ []) (rows_filled values head (suc k) (drop (suc i) flags) left)
                  ∙ sym (ap (λ rs. m.front ++ rs) (rest_by true on)) ∙ m.whole;
            }

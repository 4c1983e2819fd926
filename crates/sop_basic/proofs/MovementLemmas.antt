-- Points moved one after the other: one more, the last, and a stop.
use Rattle.std.proofs.Common.{◌≡◌, ℕ, zero, suc, ◌+◌, ◌<◌, ◌≤◌, List, [], ◌∷◌, ◌++◌, length, drop, get_or, replicate, refl, sym, ap, ◌∙◌, subst, arith, append_assoc, length-append, length-drop}
use Rattle.std.specs.Prelude.{All, Some, Result, Ok, Err, slice_get, slice_set, map, option_map}
use Rattle.std.specs.List.{range_with_len}
use Rattle.std.proofs.lemmas.List.{length-map}
use Rattle.std.proofs.lemmas.List.Elements.{All-head, All-tail}
use Rattle.std.proofs.lemmas.List.FromFn.{length-range_with_len}
use Rattle.sop_fixed.specs.declared.fault.NumFault.{NumFault}
use Rattle.sop_fixed.specs.declared.vec3.Vec3.{Vec3}
use Rattle.sop_model.specs.declared.class.Class.TheVariants.{Point}
use Rattle.sop_model.specs.declared.geo.Geo.{Geo}
use Rattle.sop_model.specs.declared.geo.Row.{Row}
use Rattle.sop_model.specs.declared.geo.Head.{Head}
use Rattle.sop_model.specs.declared.geo.HeadSet.{HeadSet}
use Rattle.sop_model.specs.declared.value.Value.{Value}
use Rattle.sop_model.specs.declared.value.Kind.TheVariants as kind
use Rattle.sop_model.specs.declared.fault.Fault.{Fault}
use Rattle.sop_model.specs.declared.fault.Fault.TheVariants as fault
use Rattle.sop_model.specs.declared.fault.CookStop.{CookStop}
use Rattle.sop_model.specs.declared.fault.CookStop.TheVariants as stop
use Rattle.sop_model.specs.declared.value.Value.TheVariants as value
use Rattle.sop_model.specs.Limits.{most_points}
use Rattle.sop_model.specs.Geometry.{empty_row, only_position, empty_geo, BeginsWithPosition, IsRowOf, IsReadable}
use Rattle.sop_model.specs.Values.{zero_vector, kind_of}
use Rattle.sop_model.specs.Plain.{point_row}
use Rattle.sop_model.specs.Places.{vector_in, place_of, places_of}
use Rattle.sop_model.specs.Rows.{with_value, default_row, points_added, changed_at, value_set}
use Rattle.sop_columns.proofs.NameLemmas.{grows_none}
use Rattle.sop_vault.specs.Keyed.{at, IsLive}
use Rattle.sop_vault.specs.Vaults.{VaultMap, Changed}
use Rattle.sop_basic.specs.Outcomes.{Outcome, then_with, in_range_from, all_in_range}
use Rattle.sop_basic.specs.Shapes.{shape}
use Rattle.sop_basic.specs.Making.{Makes, HasPoints}
use Rattle.sop_basic.specs.Movements.{Rule, of_point, point_moved, rows_moved, points_moved, points_made}
use Rattle.sop_basic.proofs.ShapeLemmas.{places_long}
use Rattle.sop_basic.proofs.MakingLemmas.{makes_then, makes_as, made_at_once, changed_then, touched_changed, touched_then, same_there, untouched, live_of}

abbrev pub put_before : List Row → Result (List Row) Fault → Result (List Row) Fault
put_before front rest = then_with rest (λ rows. Ok (front ++ rows))

-- so many points were moved: those in front are, and what the others come to decides the whole
pub record IsMoving (rule : Rule) (g : Geo) (old now : VaultMap) (key i : ℕ) : Type 0 where
  pub front : List Row
  pub many : length front ≡ i
  pub state : Changed old now key (Some (record g { points = front ++ drop i g.points }))
  pub whole : rows_moved rule 0 g.points ≡ put_before front (rows_moved rule i (drop i g.points))

pub split_at : {A : Type 0} (xs : List A) (i : ℕ) (d : A) → i < length xs → drop i xs ≡ get_or xs i d ∷ drop (suc i) xs
split_at [] i d lt = absurd (omega arith)
split_at (x ∷ xs) zero d lt = refl
split_at (x ∷ xs) (suc i) d lt = split_at xs i d (omega arith)

-- the row behind those in front
row_behind : {A : Type 0} (front rest : List A) (row d : A) → get_or (front ++ row ∷ rest) (length front) d ≡ row
row_behind [] rest row d = refl
row_behind (x ∷ front) rest row d = row_behind front rest row d

pub changed_behind : {A : Type 0} (f : A → A) (front rest : List A) (row : A) → changed_at f (front ++ row ∷ rest) (length front) ≡ (front ++ f row ∷ []) ++ rest
changed_behind f [] rest row = refl
changed_behind f (x ∷ front) rest row = ap (λ r. x ∷ r) (changed_behind f front rest row)

pub moving_none : (rule : Rule) (g : Geo) (v : VaultMap) (key : ℕ) → at v.geos key ≡ Some g → IsMoving rule g v v key 0
moving_none rule g v key there = record {
  front = [];
  many = refl;
  state = record { geos = record { here = there; others = λ other apart. refl }; held = λ other apart. refl; names = grows_none v.names };
  whole = whole (rows_moved rule 0 g.points);
}
  where
    whole : (r : Result (List Row) Fault) → r ≡ put_before [] r
    whole (Ok rows) = refl
    whole (Err f) = refl

-- where the rule takes the point of this number, and what that makes of the geometry
module _ (rule : Rule) (g : Geo) (i : ℕ) (front rest : List Row) (row : Row) (many : length front ≡ i) where
  abbrev so_far : Geo
  so_far = record g { points = front ++ row ∷ rest }

  at_row : get_or (front ++ row ∷ rest) i empty_row ≡ row
  at_row = ap (λ k. get_or (front ++ row ∷ rest) k empty_row) (sym many) ∙ row_behind front rest row empty_row

  abbrev moved_row : Vec3 → Row
  moved_row v = with_value 0 (value.Vector v) row

  set_row : (v : Vec3) → value_set so_far Point 0 i (value.Vector v) ≡ record g { points = (front ++ moved_row v ∷ []) ++ rest }
  set_row v = ap (λ (rows : List Row). record g { points = rows }) (ap (changed_at (with_value 0 (value.Vector v)) (front ++ row ∷ rest)) (sym many) ∙ changed_behind (with_value 0 (value.Vector v)) front rest row)

  -- what the step makes, by what the rule gives
  step : (r : Result Vec3 NumFault) → rule i (place_of row) ≡ r → point_moved rule so_far i ≡ then_with (of_point i r) (λ v. Ok (record g { points = (front ++ moved_row v ∷ []) ++ rest }))
  step (Ok v) is = ap (λ (x : Row). then_with (of_point i (rule i (place_of x))) (λ v. Ok (value_set so_far Point 0 i (value.Vector v)))) at_row ∙ ap (λ r. then_with (of_point i r) (λ v. Ok (value_set so_far Point 0 i (value.Vector v)))) is ∙ ap Ok (set_row v)
  step (Err e) is = ap (λ (x : Row). then_with (of_point i (rule i (place_of x))) (λ v. Ok (value_set so_far Point 0 i (value.Vector v)))) at_row ∙ ap (λ r. then_with (of_point i r) (λ v. Ok (value_set so_far Point 0 i (value.Vector v)))) is

  -- and what it makes of the whole
  rest_of : (v : Vec3) → rule i (place_of row) ≡ Ok v → put_before front (rows_moved rule i (row ∷ rest)) ≡ put_before (front ++ moved_row v ∷ []) (rows_moved rule (suc i) rest)
  rest_of v is = ap (λ r. put_before front (then_with (of_point i r) (λ v. then_with (rows_moved rule (suc i) rest) (λ moved. Ok (with_value 0 (value.Vector v) row ∷ moved))))) is ∙ joined (rows_moved rule (suc i) rest)
    where
      joined : (r : Result (List Row) Fault) → put_before front (then_with r (λ moved. Ok (moved_row v ∷ moved))) ≡ put_before (front ++ moved_row v ∷ []) r
      joined (Ok moved) = ap Ok (sym (append_assoc front (moved_row v ∷ []) moved))
      joined (Err f) = refl

  rest_fails : (e : NumFault) → rule i (place_of row) ≡ Err e → put_before front (rows_moved rule i (row ∷ rest)) ≡ Err (fault.Range i)
  rest_fails e is = ap (λ r. put_before front (then_with (of_point i r) (λ v. then_with (rows_moved rule (suc i) rest) (λ moved. Ok (with_value 0 (value.Vector v) row ∷ moved))))) is

module _ (rule : Rule) (g : Geo) (old now new : VaultMap) (key i : ℕ) (lt : i < length g.points) (m : IsMoving rule g old now key i) where
  abbrev row_here : Row
  row_here = get_or g.points i empty_row

  abbrev rows_left : List Row
  rows_left = drop (suc i) g.points

  cut : drop i g.points ≡ row_here ∷ rows_left
  cut = split_at g.points i empty_row lt

  abbrev geo_here : Geo
  geo_here = so_far rule g i m.front rows_left row_here m.many

  state_here : Changed old now key (Some geo_here)
  state_here = subst (λ (rows : List Row). Changed old now key (Some (record g { points = m.front ++ rows }))) cut m.state

  whole_here : rows_moved rule 0 g.points ≡ put_before m.front (rows_moved rule i (row_here ∷ rows_left))
  whole_here = m.whole ∙ ap (λ (rows : List Row). put_before m.front (rows_moved rule i rows)) cut

  more_by : (r : Result Vec3 NumFault) → rule i (place_of row_here) ≡ r → Makes now new key (point_moved rule geo_here i) (Ok tt) → IsMoving rule g old new key (i + 1)
  more_by (Err e) is (h, made, ch) =
      let stops : point_moved rule geo_here i ≡ Err (fault.Range i) = step rule g i m.front rows_left row_here m.many (Err e) is in
      absurd (let no : Err (fault.Range i) ≡ Ok h = sym stops ∙ made in cc)
  more_by (Ok v) is (h, made, ch) =
      let row = moved_row rule g i m.front rows_left row_here m.many v in
      let goes : Ok (record g { points = (m.front ++ row ∷ []) ++ rows_left }) ≡ Ok h = sym (step rule g i m.front rows_left row_here m.many (Ok v) is) ∙ made in
      let same : h ≡ record g { points = (m.front ++ row ∷ []) ++ rows_left } = cc in
      let next : suc i ≡ i + 1 = omega arith in
      let state = changed_then old now new key (Some geo_here) (Some (record g { points = (m.front ++ row ∷ []) ++ rows_left })) state_here (subst (λ (x : Geo). Changed now new key (Some x)) same ch) in
      record {
        front = m.front ++ row ∷ [];
        many = omega (arith, m.many, length-append m.front (row ∷ []));
        state = subst (λ k. Changed old new key (Some (record g { points = (m.front ++ row ∷ []) ++ drop k g.points }))) next state;
        whole = whole_here ∙ rest_of rule g i m.front rows_left row_here m.many v is ∙ ap (λ k. put_before (m.front ++ row ∷ []) (rows_moved rule k (drop k g.points))) next;
      }

  pub moving_more : ((h : Geo) → at now.geos key ≡ Some h → Makes now new key (point_moved rule h i) (Ok tt)) → IsMoving rule g old new key (i + 1)
  moving_more made = more_by (rule i (place_of row_here)) refl (made geo_here state_here.geos.here)

  stopped_by : (r : Result Vec3 NumFault) → rule i (place_of row_here) ≡ r → (f : Fault) → point_moved rule geo_here i ≡ Err f → points_moved rule g ≡ Err f
  stopped_by (Ok v) is f made =
      absurd (let no : Ok (record g { points = (m.front ++ moved_row rule g i m.front rows_left row_here m.many v ∷ []) ++ rows_left }) ≡ Err f = sym (step rule g i m.front rows_left row_here m.many (Ok v) is) ∙ made in cc)
  stopped_by (Err e) is f made =
      let same : Err (fault.Range i) ≡ Err f = sym (step rule g i m.front rows_left row_here m.many (Err e) is) ∙ made in
      ap (λ r. then_with r (λ rows. Ok (record g { points = rows }))) (whole_here ∙ rest_fails rule g i m.front rows_left row_here m.many e is) ∙ cc

  stops_with : (s : CookStop) → Makes now new key (point_moved rule geo_here i) (Err s) → Makes old new key (points_moved rule g) (Err s)
  stops_with (stop.Fault f) (made, then) = (stopped_by (rule i (place_of row_here)) refl f made, touched_then old now new key (touched_changed old now key geo_here state_here) then)
  stops_with stop.Memory then = touched_then old now new key (touched_changed old now key geo_here state_here) then

  pub moving_stopped : (s : CookStop) → ((h : Geo) → at now.geos key ≡ Some h → Makes now new key (point_moved rule h i) (Err s)) → Makes old new key (points_moved rule g) (Err s)
  moving_stopped s made = stops_with s (made geo_here state_here.geos.here)

pub drop_all : {A : Type 0} (xs : List A) → drop (length xs) xs ≡ []
drop_all [] = refl
drop_all (x ∷ xs) = drop_all xs

pub moving_done : (rule : Rule) (g : Geo) (old now : VaultMap) (key i : ℕ) → i ≡ length g.points → IsMoving rule g old now key i → Makes old now key (points_moved rule g) (Ok tt)
moving_done rule g old now key i all m =
    let none : drop i g.points ≡ [] = ap (λ k. drop k g.points) all ∙ drop_all g.points in (
      record g { points = m.front ++ [] },
      ap (λ r. then_with r (λ rows. Ok (record g { points = rows }))) (m.whole ∙ ap (λ rows. put_before m.front (rows_moved rule i rows)) none),
      subst (λ (rows : List Row). Changed old now key (Some (record g { points = m.front ++ rows }))) none m.state,
    )

-- ---- a point that stays
kinds_first : (heads : List Head) (values : List Value) → BeginsWithPosition heads → map kind_of values ≡ map (λ h. h.kind) heads → option_map kind_of (slice_get values 0) ≡ Some kind.Vector
kinds_first [] values begins kinds = absurd (cc)
kinds_first (h ∷ heads) [] begins kinds = absurd (cc)
kinds_first (h ∷ heads) (v ∷ values) begins kinds =
    let same : kind_of v ≡ h.kind = cc in
    ap Some (same ∙ ap (λ (h : Head). h.kind) begins)

own_first : (values : List Value) → option_map kind_of (slice_get values 0) ≡ Some kind.Vector → slice_set values 0 (value.Vector (vector_in (slice_get values 0))) ≡ values
own_first [] is = absurd (cc)
own_first (value.Vector v ∷ values) is = refl
own_first (value.Int n ∷ values) is = absurd (cc)
own_first (value.Real x ∷ values) is = absurd (cc)
own_first (value.Str text ∷ values) is = absurd (cc)
own_first (value.Ints ns ∷ values) is = absurd (cc)
own_first (value.Reals xs ∷ values) is = absurd (cc)
own_first (value.Vectors vs ∷ values) is = absurd (cc)
own_first (value.Strs texts ∷ values) is = absurd (cc)

rows_own : (set : HeadSet) → BeginsWithPosition set.heads → (rows : List Row) → All (IsRowOf set) rows → (i : ℕ) (p : Vec3) → slice_get (map place_of rows) i ≡ Some p → changed_at (with_value 0 (value.Vector p)) rows i ≡ rows
rows_own set begins [] are i p is = refl
rows_own set begins (row ∷ rows) are zero p is =
    let same : place_of row ≡ p = cc in
    let own = own_first row.values (kinds_first set.heads row.values begins (All-head (IsRowOf set) row rows are).kinds) in
    ap (λ r. r ∷ rows) (ap (λ (v : Vec3). with_value 0 (value.Vector v) row) (sym same) ∙ ap (λ vs. record row { values = vs }) own)
rows_own set begins (row ∷ rows) are (suc i) p is = ap (λ rs. row ∷ rs) (rows_own set begins rows (All-tail (IsRowOf set) row rows are) i p is)

pub place_own : (g : Geo) (i : ℕ) (p : Vec3) → IsReadable g → slice_get (places_of g) i ≡ Some p → value_set g Point 0 i (value.Vector p) ≡ g
place_own g i p readable is = ap (λ (rows : List Row). record g { points = rows }) (rows_own g.point readable.sound.position g.points (readable.sound.rows Point) i p is)

-- ---- one point, as a view tells it
place_in : (rows : List Row) (i : ℕ) (p : Vec3) → slice_get (map place_of rows) i ≡ Some p → place_of (get_or rows i empty_row) ≡ p
place_in [] i p is = cc
place_in (row ∷ rows) zero p is = cc
place_in (row ∷ rows) (suc i) p is = place_in rows i p is

point_outcome : (rule : Rule) (h : Geo) (i : ℕ) (p : Vec3) (r : Result Vec3 NumFault) → slice_get (places_of h) i ≡ Some p → rule i p ≡ r
    → point_moved rule h i ≡ then_with (of_point i r) (λ v. Ok (value_set h Point 0 i (value.Vector v)))
point_outcome rule h i p r here is =
    ap (λ q. then_with (of_point i (rule i q)) (λ v. Ok (value_set h Point 0 i (value.Vector v)))) (place_in h.points i p here)
    ∙ ap (λ r. then_with (of_point i r) (λ v. Ok (value_set h Point 0 i (value.Vector v)))) is

pub position_first : (heads : List Head) → BeginsWithPosition heads → (0 < length heads) × (option_map (λ h. h.kind) (slice_get heads 0) ≡ Some kind.Vector)
position_first [] begins = absurd (cc)
position_first (h ∷ heads) begins = (omega arith, ap (λ (h : Head). Some h.kind) begins)

module _ (rule : Rule) (old : VaultMap) (key : ℕ) (seen : Geo) (i : ℕ) (p : Vec3) (there : at old.geos key ≡ Some seen) (here : slice_get (places_of seen) i ≡ Some p) where
  -- the same of the geometry that stands there
  outcome_of : (r : Result Vec3 NumFault) → rule i p ≡ r → (h : Geo) → at old.geos key ≡ Some h → point_moved rule h i ≡ then_with (of_point i r) (λ v. Ok (value_set h Point 0 i (value.Vector v)))
  outcome_of r is h found =
      point_outcome rule h i p r (subst (λ (x : Geo). slice_get (places_of x) i ≡ Some p) (same_there (at old.geos key) seen h there found) here) is

  pub point_fails : (e : NumFault) → rule i p ≡ Err e → (h : Geo) → at old.geos key ≡ Some h → Makes old old key (point_moved rule h i) (Err (stop.Fault (fault.Range i)))
  point_fails e is h found = (outcome_of (Err e) is h found, untouched old key h found)

  pub point_put : (new : VaultMap) (v : Vec3) → rule i p ≡ Ok v → (r : Result (Unit {0}) CookStop) (h : Geo) → at old.geos key ≡ Some h → Makes old new key (Ok (value_set h Point 0 i (value.Vector v))) r → Makes old new key (point_moved rule h i) r
  point_put new v is r h found made = makes_as old new key (Ok (value_set h Point 0 i (value.Vector v))) (point_moved rule h i) r (sym (outcome_of (Ok v) is h found)) made

-- a point that goes to its place changes nothing
pub point_stays : (v : VaultMap) (key : ℕ) (h : Geo) (i : ℕ) (p to : Vec3) → p ≡ to → IsReadable h → slice_get (places_of h) i ≡ Some p → at v.geos key ≡ Some h → Makes v v key (Ok (value_set h Point 0 i (value.Vector to))) (Ok tt)
point_stays v key h i p to same readable here there =
    let own : value_set h Point 0 i (value.Vector to) ≡ h = ap (λ (x : Vec3). value_set h Point 0 i (value.Vector x)) (sym same) ∙ place_own h i p readable here in
    makes_as v v key (Ok h) (Ok (value_set h Point 0 i (value.Vector to))) (Ok tt) (ap Ok (sym own)) (made_at_once v key h there)

-- ---- as the loop asks
pub moving_there : (rule : Rule) (g : Geo) (old now : VaultMap) (key i : ℕ) → i < length g.points → IsMoving rule g old now key i → (h : Geo) → at now.geos key ≡ Some h → i < length h.points
moving_there rule g old now key i lt m h there =
    let same = same_there (at now.geos key) (record g { points = m.front ++ drop i g.points }) h m.state.geos.here there in
    let long = length-append m.front (drop i g.points) in
    let left = length-drop i g.points in
    let points = ap (λ (x : Geo). length x.points) same in
    omega (arith, m.many)

pub moving_live : (rule : Rule) (g : Geo) (old now : VaultMap) (key i : ℕ) → IsMoving rule g old now key i → IsLive now.geos key
moving_live rule g old now key i m = live_of now key (record g { points = m.front ++ drop i g.points }) m.state.geos.here

-- ---- points made, from the middle
abbrev made_row : Row
made_row = default_row only_position

module _ (rule : Rule) where
  abbrev pub targets : ℕ → ℕ → List (Result Vec3 NumFault)
  targets i n = map (λ i. rule i zero_vector) (range_with_len i n)

  one_made : (i : ℕ) (rest : List Row) (results : List (Result Vec3 NumFault)) (r : Result Vec3 NumFault)
      → rows_moved rule (suc i) rest ≡ then_with (in_range_from (suc i) results) (λ places. Ok (map point_row places))
      → then_with (of_point i r) (λ v. then_with (rows_moved rule (suc i) rest) (λ moved. Ok (with_value 0 (value.Vector v) made_row ∷ moved)))
      ≡ then_with (in_range_from i (r ∷ results)) (λ places. Ok (map point_row places))
  one_made i rest results (Err e) same = refl
  one_made i rest results (Ok v) same = ap (λ r. then_with r (λ moved. Ok (with_value 0 (value.Vector v) made_row ∷ moved))) same ∙ both (in_range_from (suc i) results)
    where
      both : (r : Result (List Vec3) Fault) → then_with (then_with r (λ places. Ok (map point_row places))) (λ moved. Ok (with_value 0 (value.Vector v) made_row ∷ moved))
          ≡ then_with (then_with r (λ xs. Ok (v ∷ xs))) (λ places. Ok (map point_row places))
      both (Ok xs) = refl
      both (Err f) = refl

  rows_made : (i n : ℕ) → rows_moved rule i (replicate n made_row) ≡ then_with (in_range_from i (targets i n)) (λ places. Ok (map point_row places))
  rows_made i zero = refl
  rows_made i (suc n) =
      let next : suc i ≡ i + 1 = omega arith in
      one_made i (replicate n made_row) (targets (i + 1) n) (rule i zero_vector)
      (rows_made (suc i) n ∙ ap (λ k. then_with (in_range_from (suc i) (targets k n)) (λ places. Ok (map point_row places))) next)

  pub made_by_moving : (n : ℕ) → points_moved rule (points_added empty_geo n) ≡ points_made rule n
  made_by_moving n = ap (λ r. then_with r (λ rows. Ok (record empty_geo { points = rows }))) (rows_made 0 n) ∙ both (in_range_from 0 (targets 0 n))
    where
      both : (r : Result (List Vec3) Fault) → then_with (then_with r (λ places. Ok (map point_row places))) (λ rows. Ok (record empty_geo { points = rows })) ≡ then_with r (λ places. Ok (shape places []))
      both (Ok xs) = refl
      both (Err f) = refl

  -- what was made
  in_range_long : (i : ℕ) (results : List (Result Vec3 NumFault)) (xs : List Vec3) → in_range_from i results ≡ Ok xs → length xs ≡ length results
  in_range_long i [] [] is = refl
  in_range_long i [] (x ∷ xs) is = cc
  in_range_long i (Err e ∷ results) xs is = cc
  in_range_long i (Ok v ∷ results) xs is = behind (λ ys. in_range_long (suc i) results ys) (in_range_from (suc i) results) refl is
    where
      behind : ((ys : List Vec3) → in_range_from (suc i) results ≡ Ok ys → length ys ≡ length results) → (r : Result (List Vec3) Fault) → in_range_from (suc i) results ≡ r → then_with r (λ xs. Ok (v ∷ xs)) ≡ Ok xs → length xs ≡ suc (length results)
      behind long (Err f) same is = cc
      behind long (Ok ys) same is =
          let e : v ∷ ys ≡ xs = cc in
          ap (λ (zs : List Vec3). length zs) (sym e) ∙ ap suc (long ys same)

  pub made_shape : (n : ℕ) (h : Geo) → points_made rule n ≡ Ok h → (places : List Vec3) × (all_in_range (targets 0 n) ≡ Ok places) × (h ≡ shape places []) × (length places ≡ n)
  made_shape n h made = from (all_in_range (targets 0 n)) refl made
    where
      from : (r : Result (List Vec3) Fault) → all_in_range (targets 0 n) ≡ r → then_with r (λ places. Ok (shape places [])) ≡ Ok h → (places : List Vec3) × (all_in_range (targets 0 n) ≡ Ok places) × (h ≡ shape places []) × (length places ≡ n)
      from (Err f) same is = cc
      from (Ok places) same is =
          let e : shape places [] ≡ h = cc in
          (places, same, sym e, in_range_long 0 (targets 0 n) places same ∙ length-map (range_with_len 0 n) (λ i. rule i zero_vector) ∙ length-range_with_len 0 n)

-- points that were made at a key: what stands there, and what follows
module _ (rule : Rule) (n : ℕ) (old mid : VaultMap) (key : ℕ) (made : Makes old mid key (points_made rule n) (Ok tt)) where
  pub made_points : n ≤ most_points → HasPoints mid key
  made_points few =
      let (h, is, ch) = made in
      let (places, all, same, long) = made_shape rule n h is in
      record { places = places; there = ch.geos.here ∙ ap Some same; few = omega arith }

  pub made_many : (places : List Vec3) → at mid.geos key ≡ Some (shape places []) → length places ≡ n
  made_many places there =
      let (h, is, ch) = made in
      let (others, all, same, long) = made_shape rule n h is in
      places_long places others [] [] (same_there (at mid.geos key) (shape places []) (shape others []) there (ch.geos.here ∙ ap Some same)) ∙ long

  pub made_then : (new : VaultMap) (next : List Vec3 → Outcome) (r : Result (Unit {0}) CookStop) → ((places : List Vec3) → at mid.geos key ≡ Some (shape places []) → Makes mid new key (next places) r)
      → Makes old new key (then_with (all_in_range (targets rule 0 n)) next) r
  made_then new next r step =
      let (h, is, ch) = made in
      let (places, all, same, long) = made_shape rule n h is in
      makes_as old new key (then_with (points_made rule n) (λ g. next places)) (then_with (all_in_range (targets rule 0 n)) next) r
      (ap (λ r. then_with (then_with r (λ ps. Ok (shape ps []))) (λ g. next places)) all ∙ sym (ap (λ r. then_with r next) all))
      (makes_then old mid new key (points_made rule n) (λ g. next places) h r is ch (step places (ch.geos.here ∙ ap Some same)))

-- points that weren't made
pub unmade_then : (rule : Rule) (n : ℕ) (old new : VaultMap) (key : ℕ) (s : CookStop) (next : List Vec3 → Outcome) → Makes old new key (points_made rule n) (Err s)
    → Makes old new key (then_with (all_in_range (targets rule 0 n)) next) (Err s)
unmade_then rule n old new key (stop.Fault f) next (made, then) = (fails (all_in_range (targets rule 0 n)) made, then)
  where
    fails : (r : Result (List Vec3) Fault) → then_with r (λ ps. Ok (shape ps [])) ≡ Err f → then_with r next ≡ Err f
    fails (Ok places) is = cc
    fails (Err e) is = cc
unmade_then rule n old new key stop.Memory next then = then

-- Points and a primitive that come to what is there: one step after the other, and where a limit is passed.
use Rattle.std.proofs.Common.{◌≡◌, ℕ, ◌+◌, ◌-◌, ◌<◌, ◌≤◌, Bool, true, false, List, [], ◌∷◌, ◌++◌, length, map, refl, sym, ap, ◌∙◌, subst, arith, append_assoc, length-append}
use Rattle.std.specs.Prelude.{Some, Result, Ok, Err, IfSome, codes, bytes_eq, if◌then◌else◌}
use Rattle.std.specs.List.{range_with_len}
use Rattle.std.proofs.lemmas.List.{length-map, map-append, append-nil}
use Rattle.sop_fixed.specs.declared.vec3.Vec3.{Vec3}
use Rattle.sop_model.specs.declared.class.Class.{Class}
use Rattle.sop_model.specs.declared.class.Class.TheVariants.{Detail, Prim, Point, Vertex}
use Rattle.sop_model.specs.declared.geo.Geo.{Geo}
use Rattle.sop_model.specs.declared.geo.Row.{Row}
use Rattle.sop_model.specs.declared.geo.HeadSet.{HeadSet}
use Rattle.sop_model.specs.declared.geo.Primitive.{Primitive}
use Rattle.sop_model.specs.declared.fault.Fault.TheVariants as fault
use Rattle.sop_model.specs.declared.fault.CookStop.{CookStop}
use Rattle.sop_model.specs.declared.fault.CookStop.TheVariants as stop
use Rattle.sop_model.specs.declared.value.Value.TheVariants as value
use Rattle.sop_model.specs.declared.value.Kind.TheVariants as kind
use Rattle.sop_model.specs.Limits.{most_heads, most_groups}
use Rattle.sop_model.specs.Vertices.{corners_of}
use Rattle.sop_model.specs.Geometry.{heads_of, count_of, fits, IsWithin, IsReadable}
use Rattle.sop_model.specs.Rows.{with_value, default_row, changed_at, value_set, points_added, prim_added, new_prim, kind_at}
use Rattle.sop_model.proofs.LimitsLemmas.{IsWithin-from, within_points, within_prims, within_vertices, within_heads, within_groups, fits_within, Fits-from_fits}
use Rattle.sop_columns.proofs.NameLemmas.{grows_none}
use Rattle.sop_vault.specs.declared.vault_end.VaultEnd.{VaultEnd}
use Rattle.sop_vault.specs.declared.vault_end.VaultEnd.TheVariants as end
use Rattle.sop_vault.specs.Keyed.{at, IsLive}
use Rattle.sop_vault.specs.Vaults.{VaultMap, Changed, IsAsBefore}
use Rattle.sop_vault.specs.Refusals.{points_refused, prim_refused}
use Rattle.sop_basic.specs.Making.{Makes, Prepares, stop_of}
use Rattle.sop_basic.specs.Add.{new_point, with_points, with_prim, with_poly, added}
use Rattle.sop_basic.specs.Additions.{Extends}
use Rattle.sop_basic.proofs.MakingLemmas.{changed_then, touched_changed, touched_then, touched_before, same_there, live_of, if_there}
use Rattle.sop_basic.proofs.MovementLemmas.{position_first}

-- ---- steps that may pass a limit
pub stays_so : (v : VaultMap) (key : ℕ) (g : Geo) → at v.geos key ≡ Some g → Changed v v key (Some g)
stays_so v key g there = record { geos = record { here = there; others = λ other apart. refl }; held = λ other apart. refl; names = grows_none v.names }

pub extends_then : (a b c : VaultMap) (key : ℕ) (x y : Geo) (r : Result (Unit {0}) CookStop) → Changed a b key (Some x) → Extends b c key y r → Extends a c key y r
extends_then a b c key x y (Ok done) ch next = changed_then a b c key (Some x) (Some y) ch next
extends_then a b c key x y (Err (stop.Fault f)) ch (limit, passes, touched) = (limit, passes, touched_then a b c key (touched_changed a b key x ch) touched)
extends_then a b c key x y (Err stop.Memory) ch touched = touched_then a b c key (touched_changed a b key x ch) touched

-- what comes behind passes the limit too
pub extends_stopped : (a b : VaultMap) (key : ℕ) (x y : Geo) (s : CookStop) → (IsWithin y → IsWithin x) → Extends a b key x (Err s) → Extends a b key y (Err s)
extends_stopped a b key x y (stop.Fault f) back (limit, passes, touched) = (limit, (λ within. passes (back within)), touched)
extends_stopped a b key x y stop.Memory back touched = touched

pub extends_made : (a b : VaultMap) (key : ℕ) (g : Geo) (r : Result (Unit {0}) CookStop) → Makes a b key (Ok g) r → Extends a b key g r
extends_made a b key g (Ok done) (h, is, ch) = let same : h ≡ g = (let e : Ok g ≡ Ok h = is in cc) in subst (λ (x : Geo). Changed a b key (Some x)) same ch
extends_made a b key g (Err (stop.Fault f)) (is, touched) = absurd (cc)
extends_made a b key g (Err stop.Memory) touched = touched

pub extends_prepares : (a b : VaultMap) (key : ℕ) (g : Geo) (r : Result (Unit {0}) CookStop) → Extends a b key g r → Prepares a b key (Ok g) r
extends_prepares a b key g (Ok done) ch = (g, refl, ch)
extends_prepares a b key g (Err (stop.Fault f)) (limit, passes, touched) = (ap (λ b. if b then Ok g else Err fault.Limit) (no (fits g) refl) ∙ ap Err (sym limit), touched)
  where
    no : (b : Bool) → fits g ≡ b → b ≡ false
    no false e = refl
    no true e = absurd (passes (fits_within (Fits-from_fits g e)))
extends_prepares a b key g (Err stop.Memory) touched = touched

pub extends_live : (a b : VaultMap) (key : ℕ) (g : Geo) (r : Result (Unit {0}) CookStop) → Extends a b key g r → IsLive b.geos key
extends_live a b key g (Ok done) ch = live_of b key g ch.geos.here
extends_live a b key g (Err (stop.Fault f)) (limit, passes, touched) = touched.live
extends_live a b key g (Err stop.Memory) touched = touched.live

-- ---- within limits before, where it is after
fewer_within : (g h : Geo) → length g.points ≤ length h.points → length g.prims ≤ length h.prims → length (corners_of g.prims) ≤ length (corners_of h.prims) → ((class : Class) → heads_of h class ≡ heads_of g class) → IsWithin h → IsWithin g
fewer_within g h points prims vertices heads within =
    IsWithin-from g (let few = within_points within in omega (arith, few, points)) (let few = within_prims within in omega (arith, few, prims)) (let few = within_vertices within in omega (arith, few, vertices))
    (λ class. subst (λ (set : HeadSet). length set.heads ≤ most_heads) (heads class) (within_heads within class))
    (λ class. subst (λ (set : HeadSet). length set.groups ≤ most_groups) (heads class) (within_groups within class))

heads_same : (g : Geo) (points : List Row) (prims : List Primitive) (class : Class) → heads_of (record g { points = points; prims = prims }) class ≡ heads_of g class
heads_same g points prims Detail = refl
heads_same g points prims Prim = refl
heads_same g points prims Point = refl
heads_same g points prims Vertex = refl

corners_behind : (prims more : List Primitive) → length (corners_of prims) ≤ length (corners_of (prims ++ more))
corners_behind [] more = omega arith
corners_behind (p ∷ prims) more = omega (arith, length-append p.corners (corners_of (prims ++ more)), length-append p.corners (corners_of prims), corners_behind prims more)

points_long : (g : Geo) (places : List Vec3) → length (with_points g places).points ≡ length g.points + length places
points_long g places = length-append g.points (map (new_point g.point) places) ∙ ap (λ n. length g.points + n) (length-map places (new_point g.point))

pub points_within : (g : Geo) (a b : List Vec3) → IsWithin (with_points g (a ++ b)) → IsWithin (with_points g a)
points_within g a b =
    fewer_within (with_points g a) (with_points g (a ++ b)) (omega (arith, points_long g a, points_long g (a ++ b), length-append a b)) (omega arith) (omega arith) (heads_same g (with_points g (a ++ b)).points g.prims)

prim_within : (g : Geo) (closed : Bool) (points : List ℕ) → IsWithin (prim_added g closed points) → IsWithin g
prim_within g closed points =
    let more = new_prim g closed points ∷ [] in
    fewer_within g (prim_added g closed points) (omega arith) (omega (arith, length-append g.prims more)) (corners_behind g.prims more) (heads_same g g.points (g.prims ++ more))

through_within : (g : Geo) (closed : Bool) (first : ℕ) (places : List Vec3) → IsWithin (with_prim closed g first places) → IsWithin g
through_within g closed first [] within = within
through_within g closed first (p ∷ places) within = prim_within g closed (range_with_len first (length (p ∷ places))) within

pub poly_within : (g : Geo) (poly : List ℕ) (first : ℕ) (places : List Vec3) → IsWithin (with_poly poly g first places) → IsWithin g
poly_within g poly first places = by (bytes_eq poly (codes "open")) (bytes_eq poly (codes "closed"))
  where
    by : (a b : Bool) → IsWithin (if a then with_prim false g first places else if b then with_prim true g first places else g) → IsWithin g
    by true b within = through_within g false first places within
    by false true within = through_within g true first places within
    by false false within = within

pub poly_none : (g : Geo) (poly : List ℕ) (first : ℕ) (places : List Vec3) → bytes_eq poly (codes "open") ≡ false → bytes_eq poly (codes "closed") ≡ false → with_poly poly g first places ≡ g
poly_none g poly first places open_not closed_not =
    ap (λ b. if b then with_prim false g first places else if bytes_eq poly (codes "closed") then with_prim true g first places else g) open_not
    ∙ ap (λ b. if b then with_prim true g first places else g) closed_not

-- ---- one point
changed_last : {A : Type 0} (f : A → A) (xs : List A) (x : A) → changed_at f (xs ++ x ∷ []) (length xs) ≡ xs ++ f x ∷ []
changed_last f [] x = refl
changed_last f (y ∷ xs) x = ap (λ ys. y ∷ ys) (changed_last f xs x)

point_is : (g : Geo) (place : Vec3) (number : ℕ) → number ≡ length g.points → value_set (points_added g 1) Point 0 number (value.Vector place) ≡ with_points g (place ∷ [])
point_is g place number is =
    ap (λ n. value_set (points_added g 1) Point 0 n (value.Vector place)) is
    ∙ ap (λ (rows : List Row). record g { points = rows }) (changed_last (with_value 0 (value.Vector place)) g.points (default_row g.point))

one_within : (g : Geo) (place : Vec3) → IsWithin (with_points g (place ∷ [])) → IsWithin (points_added g 1)
one_within g place =
    fewer_within (points_added g 1) (with_points g (place ∷ [])) (omega (arith, points_long g (place ∷ []), length-append g.points (default_row g.point ∷ []))) (omega arith) (omega arith) (heads_same g (with_points g (place ∷ [])).points g.prims)

module _ (old : VaultMap) (key : ℕ) (place : Vec3) (live : IsLive old.geos key) where
  refused_by : (new : VaultMap) (g : Geo) (e : VaultEnd) → points_refused 1 g e → IsAsBefore old new → Extends old new key (with_points g (place ∷ [])) (Err (stop_of e))
  refused_by new g end.Limit passes same = (refl, (λ within. passes (one_within g place within)), touched_before old new key live same)
  refused_by new g end.Memory passes same = touched_before old new key live same
  refused_by new g end.Exists passes same = absurd passes
  refused_by new g end.NoAttr passes same = absurd passes
  refused_by new g end.NoPoint passes same = absurd passes

  pub point_refused : (new : VaultMap) (e : VaultEnd) → IfSome (at old.geos key) (λ g. points_refused 1 g e) → IsAsBefore old new → (g : Geo) → at old.geos key ≡ Some g → Extends old new key (with_points g (place ∷ [])) (Err (stop_of e))
  point_refused new e refused same g there = refused_by new g e (if_there (at old.geos key) (λ g. points_refused 1 g e) g there refused) same

module _ (old mid : VaultMap) (key : ℕ) (come : IfSome (at old.geos key) (λ g. Changed old mid key (Some (points_added g 1)))) where
  come_at : (g : Geo) → at old.geos key ≡ Some g → Changed old mid key (Some (points_added g 1))
  come_at g there = if_there (at old.geos key) (λ g. Changed old mid key (Some (points_added g 1))) g there come

  pub point_live : (g : Geo) → at old.geos key ≡ Some g → IsLive mid.geos key
  point_live g there = live_of mid key (points_added g 1) (come_at g there).geos.here

  module _ (g : Geo) (there : at old.geos key ≡ Some g) (x : Geo) (now : at mid.geos key ≡ Some x) where
    same_now : points_added g 1 ≡ x
    same_now = same_there (at mid.geos key) (points_added g 1) x (come_at g there).geos.here now

    pub point_there : (number : ℕ) → number ≡ count_of g Point → number < count_of x Point
    point_there number is =
        let count = ap (λ (x : Geo). length x.points) same_now in
        omega (arith, is, count, length-append g.points (default_row g.point ∷ []))

    pub point_kind : IsReadable g → kind_at x Point 0 ≡ Some kind.Vector
    point_kind readable = subst (λ (x : Geo). kind_at x Point 0 ≡ Some kind.Vector) same_now (position_first g.point.heads readable.sound.position).1

  pub point_set : (new : VaultMap) (place : Vec3) (number : ℕ) (r : Result (Unit {0}) CookStop) (seen : Geo) → at old.geos key ≡ Some seen → number ≡ count_of seen Point
      → ((x : Geo) → at mid.geos key ≡ Some x → Makes mid new key (Ok (value_set x Point 0 number (value.Vector place))) r) → (g : Geo) → at old.geos key ≡ Some g → Extends old new key (with_points g (place ∷ [])) r
  point_set new place number r seen was is step g there =
      let many : number ≡ length g.points = is ∙ ap (λ (x : Geo). length x.points) (same_there (at old.geos key) seen g was there) in
      let made = extends_made mid new key (value_set (points_added g 1) Point 0 number (value.Vector place)) r (step (points_added g 1) (come_at g there).geos.here) in
      extends_then old mid new key (points_added g 1) (with_points g (place ∷ [])) r (come_at g there) (subst (λ (x : Geo). Extends mid new key x r) (point_is g place number many) made)

-- ---- one point after the other
points_twice : (g : Geo) (a b : List Vec3) → with_points (with_points g a) b ≡ with_points g (a ++ b)
points_twice g a b =
    ap (λ (rows : List Row). record g { points = rows }) (append_assoc g.points (map (new_point g.point) a) (map (new_point g.point) b) ∙ ap (λ rows. g.points ++ rows) (sym (map-append (new_point g.point) a b)))

-- so many points came, and these places are left
pub record IsAdding (g : Geo) (all : List Vec3) (old now : VaultMap) (key : ℕ) (left : List Vec3) : Type 0 where
  pub front : List Vec3
  pub state : Changed old now key (Some (with_points g front))
  pub whole : front ++ left ≡ all

module _ (g : Geo) (all : List Vec3) where
  pub adding_none : (v : VaultMap) (key : ℕ) → at v.geos key ≡ Some g → IsAdding g all v v key all
  adding_none v key there = record {
    front = [];
    state = stays_so v key (with_points g []) (there ∙ ap (λ (rows : List Row). Some (record g { points = rows })) (sym (append-nil g.points)));
    whole = refl;
  }

  module _ (old now : VaultMap) (key : ℕ) (left : List Vec3) (m : IsAdding g all old now key left) where
    pub adding_live : IsLive now.geos key
    adding_live = live_of now key (with_points g m.front) m.state.geos.here

    pub adding_done : left ≡ [] → Changed old now key (Some (with_points g all))
    adding_done none =
        let last : m.front ≡ all = sym (append-nil m.front) ∙ ap (λ ps. m.front ++ ps) (sym none) ∙ m.whole in
        subst (λ ps. Changed old now key (Some (with_points g ps))) last m.state

    module _ (new : VaultMap) (place : Vec3) (rest : List Vec3) (cut : left ≡ place ∷ rest) where
      next_whole : (m.front ++ place ∷ []) ++ rest ≡ all
      next_whole = append_assoc m.front (place ∷ []) rest ∙ ap (λ ps. m.front ++ ps) (sym cut) ∙ m.whole

      next_step : (r : Result (Unit {0}) CookStop) → ((x : Geo) → at now.geos key ≡ Some x → Extends now new key (with_points x (place ∷ [])) r) → Extends old new key (with_points g (m.front ++ place ∷ [])) r
      next_step r step =
          extends_then old now new key (with_points g m.front) (with_points g (m.front ++ place ∷ [])) r m.state
          (subst (λ (x : Geo). Extends now new key x r) (points_twice g m.front (place ∷ [])) (step (with_points g m.front) m.state.geos.here))

      pub adding_more : ((x : Geo) → at now.geos key ≡ Some x → Extends now new key (with_points x (place ∷ [])) (Ok tt)) → IsAdding g all old new key rest
      adding_more step = record { front = m.front ++ place ∷ []; state = next_step (Ok tt) step; whole = next_whole }

      pub adding_stopped : (s : CookStop) → ((x : Geo) → at now.geos key ≡ Some x → Extends now new key (with_points x (place ∷ [])) (Err s)) → Extends old new key (with_points g all) (Err s)
      adding_stopped s step =
          extends_stopped old new key (with_points g (m.front ++ place ∷ [])) (with_points g all) s
          (λ within. points_within g (m.front ++ place ∷ []) rest (subst (λ ps. IsWithin (with_points g ps)) (sym next_whole) within)) (next_step (Err s) step)

-- ---- the primitive through them
pub with_prim_none : (closed : Bool) (g : Geo) (first : ℕ) (places : List Vec3) → length places ≡ 0 → with_prim closed g first places ≡ g
with_prim_none closed g first [] none = refl
with_prim_none closed g first (p ∷ places) none = absurd (omega (arith, none))

pub with_prim_is : (closed : Bool) (g : Geo) (first last : ℕ) (places : List Vec3) → last ≡ first + length places → first < last → prim_added g closed (range_with_len first (last - first)) ≡ with_prim closed g first places
with_prim_is closed g first last [] is some = absurd (omega (arith, is, some))
with_prim_is closed g first last (p ∷ places) is some =
    let many : last - first ≡ length (p ∷ places) = omega (arith, is) in
    ap (λ n. prim_added g closed (range_with_len first n)) many

module _ (old new : VaultMap) (key : ℕ) (closed : Bool) (points : List ℕ) where
  prim_refused_by : (live : IsLive old.geos key) (g : Geo) (e : VaultEnd) → prim_refused closed points g e → IsAsBefore old new → Extends old new key (prim_added g closed points) (Err (stop_of e))
  prim_refused_by live g end.Limit refused same = (refl, refused.1, touched_before old new key live same)
  prim_refused_by live g end.Memory refused same = touched_before old new key live same
  prim_refused_by live g end.Exists refused same = absurd refused
  prim_refused_by live g end.NoAttr refused same = absurd refused
  prim_refused_by live g end.NoPoint refused same = touched_before old new key live same

  pub through_refused : IsLive old.geos key → (e : VaultEnd) → IfSome (at old.geos key) (λ g. prim_refused closed points g e) → IsAsBefore old new → (g : Geo) → at old.geos key ≡ Some g → Extends old new key (prim_added g closed points) (Err (stop_of e))
  through_refused live e refused same g there = prim_refused_by live g e (if_there (at old.geos key) (λ g. prim_refused closed points g e) g there refused) same

  pub through_made : IfSome (at old.geos key) (λ g. Changed old new key (Some (prim_added g closed points))) → (g : Geo) → at old.geos key ≡ Some g → Extends old new key (prim_added g closed points) (Ok tt)
  through_made made g there = if_there (at old.geos key) (λ g. Changed old new key (Some (prim_added g closed points))) g there made

-- ---- points, then the primitive
pub all_then : (a b c : VaultMap) (key : ℕ) (g : Geo) (places : List Vec3) (poly : List ℕ) (first : ℕ) (r : Result (Unit {0}) CookStop) → first ≡ length g.points → Changed a b key (Some (with_points g places))
    → ((x : Geo) (ps : List Vec3) → at b.geos key ≡ Some x → length x.points ≡ first + length ps → Extends b c key (with_poly poly x first ps) r) → Extends a c key (added g places poly) r
all_then a b c key g places poly first r is ch step =
    let many : length (with_points g places).points ≡ first + length places = points_long g places ∙ ap (λ n. n + length places) (sym is) in
    extends_then a b c key (with_points g places) (added g places poly) r ch
    (subst (λ n. Extends b c key (with_poly poly (with_points g places) n places) r) is (step (with_points g places) places ch.geos.here many))

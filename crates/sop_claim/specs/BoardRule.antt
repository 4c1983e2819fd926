-- The rule of a board: what is true of its two words and of the views of all its passes between any two steps, whatever the passes did.
-- Word 0 counts the draws. Word 1 is the least reported ticket, or n. A pass that was joined into another is spent: its view knows nothing and has no share.
use Rattle.std.specs.Prelude.{◌≡◌, ℕ, ◌+◌, ◌^◌, ◌<◌, ◌≤◌, List, [], ◌∷◌, length, min, slice_index, slice_get, if◌then◌else◌, nat_lt, MatchBool, Bool, true, false, Option, Some}
use mathlib.Core.Option.{some}
use lib.ListN.{get_elem?}
use Rattle.atomic_table.specs.Table.{State, Me, Step}
use Rattle.sop_claim.specs.declared.machine.Event.{Event}
use Rattle.sop_claim.specs.declared.machine.Standing.{Standing}
use Rattle.sop_claim.specs.declared.machine.Standing.TheVariants.{Held, Done, Skipped}
use Rattle.sop_claim.specs.declared.rule.View.{View}
use Rattle.sop_claim.specs.declared.rule.TheConstants.{WHOLE_SHARE}
use Rattle.sop_claim.specs.Claims.{start, after, is_faulty}
use Rattle.sop_claim.specs.Views.{times, settled, IsHeld, HasLoadedBelow, IsAfter, share, newcomer, with_drawn, with_miss, with_faulty, with_loaded}

-- f of each view, added up
abbrev pub total : {V : Type 0} → (V → ℕ) → List V → ℕ
total f [] = 0
total f (v ∷ vs) = f v + total f vs

-- 1 for a number below n, and else 0
abbrev pub once_below : ℕ → ℕ → ℕ
once_below x n = if nat_lt x n then 1 else 0

-- how often the passes have drawn, reported and loaded x, and how many of their draws found nothing
abbrev pub drawn_by_all : ℕ → List View → ℕ
drawn_by_all x views = total (λ v. times x v.drawn) views

abbrev pub reported_by_all : ℕ → List View → ℕ
reported_by_all x views = total (λ v. times x v.faulty) views

abbrev pub loaded_by_all : ℕ → List View → ℕ
loaded_by_all x views = total (λ v. times x v.loaded) views

abbrev pub missed_by_all : List View → ℕ
missed_by_all views = total (λ v. v.missed) views

-- A pass settles only tickets that it drew, each once. It has loaded a least below each that it skipped. Without a share it has drawn nothing
pub record IsSound (v : View) : Type 0 where
  pub own : (x : ℕ) → settled x v ≤ times x v.drawn
  pub above : (x : ℕ) → 1 ≤ times x v.skipped → HasLoadedBelow v x
  pub spent : share v ≡ 0 → v.drawn ≡ []

pub record IsKept (n next least : ℕ) (views : List View) : Type 0 where
  -- the number of tickets fits 32 bits
  pub small : n < 2 ^ 32
  -- the tickets that the passes drew are the numbers below the lesser of word 0 and n, each in one pass, once
  pub once : (x : ℕ) → drawn_by_all x views ≡ once_below x (min next n)
  -- word 1 is the least of n and of all reported tickets
  pub within : least ≤ n
  pub lower : (x : ℕ) → x < least → reported_by_all x views ≡ 0
  pub reached : least < n → 1 ≤ reported_by_all least views
  -- each value that a pass loaded is n or a reported ticket, and at least word 1
  pub loaded : (x : ℕ) → 1 ≤ loaded_by_all x views → (least ≤ x) × (x ≤ n) × (x < n → 1 ≤ reported_by_all x views)
  -- what each pass has settled and skipped
  pub each : (i : ℕ) (v : View) → get_elem? views i ≡ some v → IsSound v
  -- the shares of all passes add up to the whole
  pub shares : total share views ≡ WHOLE_SHARE
  -- each draw past n is one that found nothing, so word 0 never wraps
  pub counted : next ≤ n + missed_by_all views
  -- a draw finds nothing only once all tickets were drawn
  pub ended : 0 < missed_by_all views → n ≤ next

abbrev pub is_done : Option Standing → Bool
is_done (Some Done) = true
is_done _ = false

abbrev pub is_skipped : Option Standing → Bool
is_skipped (Some Skipped) = true
is_skipped _ = false

abbrev pub one_if : Bool → ℕ
one_if b = if b then 1 else 0

-- the tickets that stand so are those that the passes list
abbrev pub Lists : (View → List ℕ) → (Option Standing → Bool) → List Standing → List View → Type 0
Lists list is tickets views = (x : ℕ) → total (λ v. times x (list v)) views ≡ one_if (is (slice_get tickets x))

-- the tickets stand as the passes have settled them
pub record StandAs (tickets : List Standing) (views : List View) : Type 0 where
  pub done : Lists (λ v. v.done) is_done tickets views
  pub faulty : Lists (λ v. v.faulty) is_faulty tickets views
  pub skipped : Lists (λ v. v.skipped) is_skipped tickets views

-- The ticket is held, in the claims, by the worker that drew it, whose tickets lie in the pass.
abbrev pub IsHeldFor : List Standing → (ℕ → ℕ) → ℕ → ℕ → Type 0
IsHeldFor tickets keeper pass k = (w : ℕ) × (slice_get tickets k ≡ Some (Held w)) × (keeper w ≡ pass)

-- the board is what some list of events makes of the claims, where each pass ever made is a worker
pub record IsReached (n next least : ℕ) (views : List View) : Type 0 where
  pub events : List Event
  pub tickets : List Standing
  -- the pass in which the tickets lie that a worker drew: its own, or the one that it was joined into
  pub keeper : ℕ → ℕ
  pub run : (workers : ℕ) → length views ≤ workers → after (start workers n) events ≡ Some record { workers = workers; n = n; least = least; tickets = tickets }
  pub drawn : length tickets ≡ min next n
  pub stand : StandAs tickets views
  -- a pass with a share keeps what its own worker drew, and so will each pass that is yet to be made
  pub own : (i : ℕ) (v : View) → get_elem? views i ≡ some v → 1 ≤ share v → keeper i ≡ i
  pub later : (i : ℕ) → length views ≤ i → keeper i ≡ i
  -- a ticket that a pass drew and has not settled is held by the worker that drew it, also after a join
  pub held : (i k : ℕ) (v : View) → get_elem? views i ≡ some v → IsHeld v k → IsHeldFor tickets keeper i k

abbrev pub BoardState : Type 0
BoardState = State (Unit {0}) View

abbrev pub Rule : ℕ → BoardState → Type 0
Rule n s = (length s.words ≡ 2) × IsKept n (slice_index s.words 0) (slice_index s.words 1) s.views × IsReached n (slice_index s.words 0) (slice_index s.words 1) s.views

-- the pass with the whole share, which each board begins with
abbrev pub first_view : ℕ → View
first_view n = newcomer n WHOLE_SHARE

abbrev pub spent_view : View
spent_view = newcomer 0 0

-- What each kind of step tells its pass. A step tells of the word as it was, r, and of the pass before and after it, m and w
abbrev pub Place : Type 0
Place = Me (Unit {0}) View

-- the word was below n and is the ticket, or all tickets were drawn
abbrev pub Draws : Step (Unit {0}) → Place → ℕ → Place → Type 0
Draws st m r w = (w.1 ≡ m.1) × MatchBool (nat_lt r m.0.n) ((w.0 ≡ with_drawn m.0 r) × IsAfter m.0 r) (w.0 ≡ with_miss m.0)

-- the word is now no more than the ticket
abbrev pub Reports : Step (Unit {0}) → Place → ℕ → Place → Type 0
Reports st m r w = (w.1 ≡ m.1) × (w.0 ≡ with_faulty m.0 st.first)

-- the word is n at most, and no more than what the pass has told or was told
abbrev pub Loads : Step (Unit {0}) → Place → ℕ → Place → Type 0
Loads st m r w = (w.1 ≡ m.1) × (w.0 ≡ with_loaded m.0 r) × (r ≤ m.0.n) × ((x : ℕ) → 1 ≤ times x m.0.faulty + times x m.0.loaded → r ≤ x)

-- the pass has settled the ticket, which changes no word
abbrev pub Settles : (View → ℕ → View) → ℕ → Step (Unit {0}) → Place → ℕ → Place → Type 0
Settles with_settled k st m r w = (w.1 ≡ m.1) × (w.0 ≡ with_settled m.0 k)

-- nothing changes, and the share of the pass is part of the whole
abbrev pub Weighs : Step (Unit {0}) → Place → ℕ → Place → Type 0
Weighs st m r w = (w.1 ≡ m.1) × (w.0 ≡ m.0) × (share m.0 ≤ WHOLE_SHARE)

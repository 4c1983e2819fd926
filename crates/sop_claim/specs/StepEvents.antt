-- What each kind of step of a board is in the machine of claims: an event of it, or none.
use Rattle.std.specs.Prelude.{◌≡◌, ℕ, ◌==◌, List, if◌then◌else◌, slice_set, slice_get, Some}
use mathlib.Core.Option.{some}
use lib.ListN.{get_elem?}
use Rattle.sop_claim.specs.declared.machine.Event.{Event}
use Rattle.sop_claim.specs.declared.machine.Standing.TheVariants.{Held}
use Rattle.sop_claim.specs.declared.rule.View.{View}
use Rattle.sop_claim.specs.BoardRule.{IsKept, IsReached}

-- A board between two steps, as its rule has it, and one of its passes.
pub record Moment : Type 0 where
  pub n : ℕ
  pub next : ℕ
  pub least : ℕ
  pub views : List View
  pub kept : IsKept n next least views
  pub reached : IsReached n next least views
  pub id : ℕ
  pub view : View
  pub there : get_elem? views id ≡ some view

-- the events so far
abbrev pub so_far : Moment → List Event
so_far b = b.reached.events

-- the pass in which the tickets of each worker lie
abbrev pub keeper : Moment → ℕ → ℕ
keeper b = b.reached.keeper

-- the views where that of the pass has become another
abbrev pub with_view : Moment → View → List View
with_view b v = slice_set b.views b.id v

-- The board has this view of another pass.
abbrev pub HasOther : Moment → ℕ → View → Type 0
HasOther b other w = ¬ (other ≡ b.id) × (get_elem? b.views other ≡ some w)

-- The ticket of the pass is held by this worker, which drew it.
abbrev pub IsHeldBy : Moment → ℕ → ℕ → Type 0
IsHeldBy b k w = (slice_get b.reached.tickets k ≡ Some (Held w)) × (keeper b w ≡ b.id)

-- where the tickets lie once one pass has given all that it has to another
abbrev pub handed : (ℕ → ℕ) → ℕ → ℕ → ℕ → ℕ
handed keeper from to w = if keeper w == from then to else keeper w

-- These events lead the claims to the board with these words and views.
abbrev pub IsLedTo : (n next least : ℕ) → List View → (ℕ → ℕ) → List Event → Type 0
IsLedTo n next least views keeper events = (g : IsReached n next least views) × (g.events ≡ events) × (g.keeper ≡ keeper)

-- The step leads to these words and views, which keep the rule, and to these events.
abbrev pub LeadsTo : Moment → (next least : ℕ) → List View → (ℕ → ℕ) → List Event → Type 0
LeadsTo b next least views keeper events = IsKept b.n next least views × IsLedTo b.n next least views keeper events

-- How a board ends, as its last pass knows it, which all others were joined into.
use Rattle.std.specs.Prelude.{◌≡◌, ℕ, ◌<◌, ◌≤◌, List, [], ◌∷◌, Some, slice_get}
use Rattle.sop_claim.specs.declared.machine.Event.{Event}
use Rattle.sop_claim.specs.declared.machine.Standing.TheVariants.{Held}
use Rattle.sop_claim.specs.declared.rule.View.{View}
use Rattle.sop_claim.specs.declared.board.BoardEnd.{BoardEnd}
use Rattle.sop_claim.specs.Claims.{Claims, start, after, next}
use Rattle.sop_claim.specs.Views.{times, settled, IsHeld}
use Rattle.sop_claim.specs.BoardRule.{once_below, StandAs}

-- what the last pass knows of all tickets of a board of n
pub record Knows (n : ℕ) (end : BoardEnd) (v : View) : Type 0 where
  -- the drawn tickets are those below end.drawn, each once, and all n where a draw found nothing
  pub up_to : end.drawn ≤ n
  pub once : (x : ℕ) → times x v.drawn ≡ once_below x end.drawn
  pub ended : 0 < v.missed → end.drawn ≡ n
  -- end.least is the least of n and of all reported tickets
  pub within : end.least ≤ n
  pub lower : (x : ℕ) → x < end.least → times x v.faulty ≡ 0
  pub reached : end.least < n → 1 ≤ times end.least v.faulty
  -- each value that was loaded is n or a reported ticket, and at least end.least
  pub loaded : (x : ℕ) → 1 ≤ times x v.loaded → (end.least ≤ x) × (x ≤ n) × (x < n → 1 ≤ times x v.faulty)
  -- only drawn tickets were settled, each once, and only those above end.least were skipped
  pub own : (x : ℕ) → settled x v ≤ times x v.drawn
  pub above : (x : ℕ) → 1 ≤ times x v.skipped → end.least < x

-- some list of events leads the claims to where the board stands: to its next ticket, its least, and each ticket as it was settled
pub record EndsRun (n : ℕ) (end : BoardEnd) (v : View) : Type 0 where
  pub workers : ℕ
  pub events : List Event
  pub claims : Claims
  pub run : after (start workers n) events ≡ Some claims
  pub drawn : next claims ≡ end.drawn
  pub least : claims.least ≡ end.least
  pub stand : StandAs claims.tickets (v ∷ [])
  -- a ticket that was drawn and not settled is held still, by the worker that drew it
  pub held : (k : ℕ) → IsHeld v k → (w : ℕ) × (slice_get claims.tickets k ≡ Some (Held w))

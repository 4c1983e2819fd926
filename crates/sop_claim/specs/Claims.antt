-- The claims of workers on the tickets below n: what each event does, and where it is allowed.
use Rattle.std.specs.Prelude.{◌≡◌, ℕ, ◌<◌, ◌≤◌, List, [], ◌∷◌, ◌++◌, length, min, Bool, true, false, ◌==◌, ◌&&◌, nat_lt, Option, Some, None, slice_get, slice_set, option_and_then}
use Rattle.sop_claim.specs.declared.machine.Event.{Event}
use Rattle.sop_claim.specs.declared.machine.Event.TheVariants as on
use Rattle.sop_claim.specs.declared.machine.Standing.{Standing}
use Rattle.sop_claim.specs.declared.machine.Standing.TheVariants.{Held, Done, Faulty, Skipped}

-- how many workers and tickets there are, the least faulty ticket or n, and how each drawn ticket stands
pub record Claims : Type 0 where
  pub workers : ℕ
  pub n : ℕ
  pub least : ℕ
  pub tickets : List Standing

-- no ticket is drawn
abbrev pub start : ℕ → ℕ → Claims
start workers n = record { workers = workers; n = n; least = n; tickets = [] }

-- the number of drawn tickets, which is the next ticket
abbrev pub next : Claims → ℕ
next s = length s.tickets

abbrev pub is_held_by : ℕ → Option Standing → Bool
is_held_by worker (Some (Held holder)) = holder == worker
is_held_by worker _ = false

abbrev pub is_faulty : Option Standing → Bool
is_faulty (Some Faulty) = true
is_faulty _ = false

-- whether the worker drew the ticket and has not settled it
abbrev pub holds : Claims → ℕ → ℕ → Bool
holds s worker ticket = is_held_by worker (slice_get s.tickets ticket)

-- the claims once the ticket stands so
abbrev pub with_standing : Claims → ℕ → Standing → Claims
with_standing s ticket how = record s { tickets = slice_set s.tickets ticket how }

abbrev pub allowed_if : Bool → Claims → Option Claims
allowed_if true s = Some s
allowed_if false s = None

-- what an event makes of the claims, or none where it is not allowed
abbrev pub step : Claims → Event → Option Claims
step s (on.Draw w) = allowed_if (nat_lt w s.workers && nat_lt (next s) s.n) record s { tickets = s.tickets ++ Held w ∷ [] }
step s (on.Done w k) = allowed_if (holds s w k) (with_standing s k Done)
step s (on.Fault w k) = allowed_if (holds s w k) record (with_standing s k Faulty) { least = min s.least k }
step s (on.Skip w k seen) = allowed_if (holds s w k && (nat_lt seen k && is_faulty (slice_get s.tickets seen))) (with_standing s k Skipped)

-- the claims after the events, or none where one of them is not allowed
abbrev pub after : Claims → List Event → Option Claims
after s [] = Some s
after s (e ∷ es) = option_and_then (λ t. after t es) (step s e)

abbrev pub is_settled : Standing → Bool
is_settled (Held w) = false
is_settled _ = true

-- all tickets were drawn, and each is settled
abbrev pub AtRest : Claims → Type 0
AtRest s = (next s ≡ s.n) × ((k : ℕ) (t : Standing) → slice_get s.tickets k ≡ Some t → is_settled t ≡ true)

-- each ticket below the least is done, and the least is faulty unless it is n
pub record EndsWell (s : Claims) : Type 0 where
  pub done : (k : ℕ) → k < s.least → k < s.n → slice_get s.tickets k ≡ Some Done
  pub faulty : s.least < s.n → slice_get s.tickets s.least ≡ Some Faulty
  pub within : s.least ≤ s.n

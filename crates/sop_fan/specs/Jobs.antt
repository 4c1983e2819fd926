-- What a job answers, and what comes of all its tickets.
use Rattle.std.specs.Prelude.{◌≡◌, ℕ, ◌<◌, Option, Some, None, List, length, slice_index_or}
use Rattle.sop_fan.specs.declared.job.Stop.{Stop}
use Rattle.sop_fan.specs.declared.job.Stop.TheVariants as stop
use Rattle.sop_fan.specs.declared.job.FanEnd.{FanEnd}
use Rattle.sop_fan.specs.declared.job.FanEnd.TheVariants as end

-- a stop at a ticket: the fault that the ticket has, or want of memory
abbrev pub IsStopOf : {F : Type 0} → Option F → Stop F → Type 0
IsStopOf fault (stop.Fault f) = fault ≡ Some f
IsStopOf fault stop.Memory = Unit {0}

-- one result for each of 0 to n-1, in order, which has no fault and whose test admits the result
abbrev pub AreAnswers : {O F : Type 0} → (ℕ → Option F) → (ℕ → O → Type 0) → ℕ → List O → Type 0
AreAnswers {O} fault admits n outs = (length outs ≡ n) × ((k : ℕ) → k < n → (fault k ≡ None) × ((d : O) → admits k (slice_index_or outs k d)))

-- k is the least number that has a fault, and f is its fault
abbrev pub IsFirstFault : {F : Type 0} → (ℕ → Option F) → ℕ → ℕ → F → Type 0
IsFirstFault fault n k f = (k < n) × (fault k ≡ Some f) × ((j : ℕ) → j < k → fault j ≡ None)

-- how the run of n tickets ends without results: at the first fault, or for want of memory
abbrev pub IsEndOf : {F : Type 0} → (ℕ → Option F) → ℕ → FanEnd F → Type 0
IsEndOf fault n (end.Fault k f) = IsFirstFault fault n k f
IsEndOf fault n end.Memory = Unit {0}

-- What workers bring back.
use Rattle.std.specs.Prelude.{◌≡◌, ℕ, ◌+◌, ◌<◌, ◌≤◌, nat_lt, if◌then◌else◌, Option, Some, None, List, [], ◌∷◌, map, All, MatchOption}
use Rattle.sop_claim.specs.declared.rule.View.{View}
use Rattle.sop_claim.specs.declared.board.Board.{Board}
use Rattle.sop_claim.specs.declared.board.Pass.{Pass}
use Rattle.sop_claim.specs.Views.{times, settled, share}
use Rattle.sop_claim.specs.Passes.{view_of, IsPassOf}

-- the fault is that of the least ticket that the pass reported, or none where it reported none
abbrev pub IsLeastOf : {F : Type 0} → (ℕ → Option F) → View → Option (ℕ × F) → Type 0
IsLeastOf fault_at v fault = MatchOption fault ((x : ℕ) → times x v.faulty ≡ 0) (λ found. (1 ≤ times found.0 v.faulty) × ((x : ℕ) → 1 ≤ times x v.faulty → found.0 ≤ x) × (fault_at found.0 ≡ Some found.1))

-- the results are those of the done tickets, each admitted, and the fault is that of the least reported one
pub record Carries {O F : Type 0} (fault_at : ℕ → Option F) (admits : ℕ → O → Type 0) (v : View) (outs : List (ℕ × O)) (fault : Option (ℕ × F)) : Type 0 where
  pub done : map (λ out. out.0) outs ≡ v.done
  pub good : All (λ out. (fault_at out.0 ≡ None) × admits out.0 out.1) outs
  pub found : IsLeastOf fault_at v fault

-- the pass has drawn and settled nothing
abbrev pub IsBlank : View → Type 0
IsBlank v = (v.drawn ≡ []) × (v.done ≡ []) × (v.faulty ≡ []) × (v.skipped ≡ [])

-- each ticket that the pass drew is settled
abbrev pub AllSettled : View → Type 0
AllSettled v = (x : ℕ) → settled x v ≡ times x v.drawn

-- a pass that drew nothing more, and has the same room
abbrev pub SameDraws : View → View → Type 0
SameDraws old new = (new.drawn ≡ old.drawn) × (new.room ≡ old.room) × (new.missed ≡ old.missed)

-- ticket k was settled, and no other
abbrev pub SettlesOne : View → View → ℕ → Type 0
SettlesOne old new k = (x : ℕ) → settled x new ≡ settled x old + times x (k ∷ [])

-- the haul of a part of the workers, with this share of the board, once all tickets were drawn
pub record IsHaul {O F : Type 0} (fault_at : ℕ → Option F) (admits : ℕ → O → Type 0) (board : Board) (part : ℕ) (pass : Pass) (outs : List (ℕ × O)) (fault : Option (ℕ × F)) : Type 0 where
  pub of_board : IsPassOf board pass
  pub part_is : share (view_of pass) ≡ part
  pub carries : Carries fault_at admits (view_of pass) outs fault
  pub all_settled : AllSettled (view_of pass)
  pub ended : 0 < (view_of pass).missed

-- the fault of the lesser ticket
abbrev pub lesser : {F : Type 0} → Option (ℕ × F) → Option (ℕ × F) → Option (ℕ × F)
lesser (Some one) (Some two) = Some (if nat_lt two.0 one.0 then two else one)
lesser (Some one) None = Some one
lesser None two = two

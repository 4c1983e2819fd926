-- What contracts see of a board and of its passes.
use Rattle.std.specs.Prelude.{◌≡◌, ℕ}
use Rattle.sop_claim.specs.declared.rule.View.{View}
use Rattle.sop_claim.specs.declared.board.Board.{Board}
use Rattle.sop_claim.specs.declared.board.Pass.{Pass}

-- the number of tickets of a board
abbrev pub tickets : Board → ℕ
tickets b = b.table.shared.key

-- what a pass knows
abbrev pub view_of : Pass → View
view_of p = p.seat.me.0

-- the pass is one of this board
abbrev pub IsPassOf : Board → Pass → Type 0
IsPassOf b p = (p.seat.table_id ≡ b.table.shared.table_id) × ((view_of p).n ≡ tickets b)

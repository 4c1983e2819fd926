-- What a node cooks to: a geometry, or a fault with its node.
--
-- Its visit is run: where it asks for a source, that is cooked, and the first fault wins. So inputs are cooked by rising number, before the
-- node. Nothing is kept from one visit to the next.
use Rattle.std.specs.Prelude.{ℕ, zero, suc, List, length, Result, Ok, Err}
use Rattle.sop_model.specs.declared.fault.Fault.TheVariants as fault
use Rattle.sop_net.specs.declared.node.Node.{Node}
use Rattle.sop_net.specs.Network.{node_of}
use Rattle.sop_basic.specs.Loads.{FileMap}
use Rattle.sop_cook.specs.Visit.{Outcome, failed, Visit, visit}

abbrev pub then_with : {A B E : Type 0} → Result A E → (A → Result B E) → Result B E
then_with (Ok a) go = go a
then_with (Err e) go = Err e

-- a visit is run, where `go` tells what its sources give
abbrev pub run : (ℕ → Outcome) → Visit → Outcome
run go (Visit.Give outcome) = outcome
run go (Visit.Ask input source more) = then_with (go source) (λ g. run go (more g))

-- what node x gives, at most so many nodes deep
abbrev pub cooked : ℕ → FileMap → List Node → ℕ → Outcome
cooked zero files nodes x = Err (failed x fault.NotYet)
cooked (suc depth) files nodes x = run (cooked depth files nodes) (visit files x (node_of nodes x))

-- What node x gives. Without cycles no way up is longer than the number of nodes, so the bound is never met: on a network this is
-- `run (cook_of files nodes) (visit files x (node_of nodes x))`, by the law `cook_runs_visits`.
abbrev pub cook_of : FileMap → List Node → ℕ → Outcome
cook_of files nodes x = cooked (length nodes) files nodes x

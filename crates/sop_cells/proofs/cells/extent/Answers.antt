use Rattle.std.proofs.Common.{◌≤◌, arith}
use Rattle.sop_cells.proofs.CutLemmas.{page_power}
use Rattle.sop_cells.proofs.cells.extent.Goals as goal

pub returns-clause-tight : goal.returns-clause-tight
returns-clause-tight c = λ pages h.
    let p : c.next_power_of_two.result ≤ 1024 = let u = c.next_power_of_two.ensures.upper_bound in page_power c.next_power_of_two.result c.next_power_of_two.ensures.power.0 c.next_power_of_two.ensures.power.1 (omega arith) in
    let r = c.if-len-ge-MOST_CELLS.false in omega arith

use Rattle.std.proofs.Common.{◌≡◌, ◌≤◌, ◌+◌, length, List, ℕ, Option, Some, None, []}
use Rattle.std.specs.Borrow.{Bor}
use Rattle.geo_text.specs.ObjLines.{joined}
use Rattle.geo_text.specs.ObjMeaning.{counts_of, no_counts}
use Rattle.geo_text.specs.ObjScan.{ends_in, joined_left}
use Rattle.geo_text.specs.ObjRun.{taking_seen}
use Rattle.geo_text.specs.ObjLoop.{said_at, said_left, ends_left, counts_sum, outcome}
use Rattle.geo_text.proofs.obj_lines.read_lines.Given as goal

abbrev size_left : Option (Bor (List ℕ)) → ℕ
size_left None = 0
size_left (Some line) = length line.now + 1

abbrev pub invariant-loop-left : goal.invariant-loop-left
invariant-loop-left g l =
    let ends = ends_in (joined l.text) in
    record {
      attributes : g.T.ObjTaker.attributes l.taker ≡ g.T.ObjTaker.attributes l.initial.taker;
      outcome : outcome (g.T.ObjTaker.attributes l.initial.taker) l.totals l.state.so_far (said_left ends (joined_left l.left)) (taking_seen (g.T.ObjTaker.taken l.taker) l.state.groups)
          ≡ outcome (g.T.ObjTaker.attributes l.initial.taker) l.totals no_counts (said_at ends (joined l.text)) (record { geo = g.T.ObjTaker.taken l.initial.taker; groups = []; flags = None });
      counts : counts_sum l.state.so_far (counts_of (said_left ends (joined_left l.left))) ≡ l.totals.counts;
      ends : ends_left (joined_left l.left) ≤ ends;
    }

abbrev pub decreases-loop-left : goal.decreases-loop-left
decreases-loop-left g l = size_left l.left

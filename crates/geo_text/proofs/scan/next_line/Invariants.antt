use Rattle.std.proofs.Common.{◌≡◌, length, ◌≤◌}
use Rattle.geo_text.specs.ObjLines.{joined}
use Rattle.geo_text.specs.ObjScan.{behind_line}
use Rattle.geo_text.proofs.scan.next_line.Given as goal

abbrev pub invariant-loop-at : goal.invariant-loop-at
invariant-loop-at l = record { line : behind_line (joined l.rest) ≡ behind_line (joined l.text); within : length l.rest ≤ length l.text }

abbrev pub decreases-loop-at : goal.decreases-loop-at
decreases-loop-at l = length l.rest

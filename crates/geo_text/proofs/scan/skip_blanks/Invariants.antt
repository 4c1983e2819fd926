use Rattle.std.proofs.Common.{◌≡◌, ◌≤◌, length}
use Rattle.geo_text.specs.ObjScan.{words_here}
use Rattle.geo_text.proofs.scan.skip_blanks.Given as goal

abbrev pub invariant-loop-more : goal.invariant-loop-more
invariant-loop-more l = (words_here l.rest ≡ words_here l.text) × (length l.rest ≤ length l.text)

abbrev pub decreases-loop-more : goal.decreases-loop-more
decreases-loop-more l = length l.rest

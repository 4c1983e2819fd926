use Rattle.std.proofs.Common.{◌≡◌, ◌≤◌, ◌-◌, ◌++◌, length, take, drop, true}
use Rattle.geo_text.specs.ObjLines.{joined}
use Rattle.geo_text.specs.ObjScan.{is_word}
use Rattle.geo_text.proofs.scan.word_len.Given as goal

abbrev pub invariant-loop-len : goal.invariant-loop-len
invariant-loop-len l = (l.len ≤ length l.text) × (joined l.text ≡ take l.len l.text ++ joined (drop l.len l.text)) × (is_word (take l.len l.text) ≡ true)

abbrev pub decreases-loop-len : goal.decreases-loop-len
decreases-loop-len l = length l.text - l.len

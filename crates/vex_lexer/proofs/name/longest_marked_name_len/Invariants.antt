use Rattle.std.proofs.Common.{take}
use Rattle.std.specs.List.{list_any}
use Rattle.vex_lexer.specs.Longest.{IsLongest}
use Rattle.vex_lexer.specs.Words.{is_marked_name}
use Rattle.vex_lexer.proofs.name.longest_marked_name_len.Given as goal

abbrev pub invariant-loop-mark : goal.invariant-loop-mark
invariant-loop-mark l = IsLongest (λ word. list_any (λ mark. is_marked_name mark.now word) (take l.mark-index l.marks)) l.rest l.longest

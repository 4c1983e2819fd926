use Rattle.std.proofs.Common.{take, bytes_eq}
use Rattle.std.specs.List.{list_any}
use Rattle.vex_lexer.specs.Longest.{IsLongest}
use Rattle.vex_lexer.specs.Operators.{text_of}
use Rattle.vex_lexer.proofs.operator.longest_operator_len.Given as goal

abbrev pub invariant-loop-operator : goal.invariant-loop-operator
invariant-loop-operator l = IsLongest (λ word. list_any (λ operator. bytes_eq (text_of operator) word) (take l.operator-index l.operators)) l.rest l.longest

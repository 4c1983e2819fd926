use Rattle.std.proofs.Common.{◌≡◌, ◌++◌, false, string_bytes}
use Rattle.vex_lexer.specs.Escapes.{unescaped}
use Rattle.vex_lexer.proofs.quoted.unescaped.Given as goal

abbrev pub invariant-loop-c : goal.invariant-loop-c
invariant-loop-c l = string_bytes l.made ++ unescaped l.escape l.c-iterator.rest.now ≡ unescaped false l.text

use Rattle.std.proofs.Common.{◌≡◌, false, drop}
use Rattle.hscript_text.specs.Words.{unescaped_quote}
use Rattle.hscript_text.proofs.Closings.{further}
use Rattle.hscript_text.proofs.quotes.unescaped_quote.Given as goal

abbrev pub invariant-loop-i : goal.invariant-loop-i
invariant-loop-i l = further l.i (unescaped_quote l.escape (drop l.i l.text)) ≡ unescaped_quote false l.text

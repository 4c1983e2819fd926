use Rattle.std.proofs.Common.{◌∙◌, ◌+◌, ap, sym, false, drop}
use Rattle.hscript_text.specs.Words.{unescaped_quote}
use Rattle.hscript_text.proofs.Closings.{further, further-zero, quote_here, quote_escape, quote_plain, quote_past}
use Rattle.hscript_text.proofs.quotes.unescaped_quote.Goals as goal
use Rattle.hscript_text.proofs.quotes.unescaped_quote.Goals.{then-escape, else-escape+else-b-eq34}

pub loop-i-init : goal.loop-i-init
loop-i-init c = further-zero (unescaped_quote false c.args.text.now)

pub loop-i-preserved : goal.loop-i-preserved
loop-i-preserved c =
    let text = c.args.text.now in
    let i = c.loop-i.i in
    elim c.if-escape.branch [
      | then-escape w ↦
          ap (λ e. further (i + 1) (unescaped_quote e (drop (i + 1) text))) w.escape-is
          ∙ sym (quote_escape text i c.loop-i-test.true) ∙ sym (ap (λ e. further i (unescaped_quote e (drop i text))) w.if-escape.true) ∙ c.loop-i.invariant
      | else-escape+else-b-eq34 w ↦
          sym (quote_plain text i c.if-escape.escape c.loop-i-test.true w.if-b-eq34.false w.escape-is)
          ∙ sym (ap (λ e. further i (unescaped_quote e (drop i text))) w.if-escape.false) ∙ c.loop-i.invariant
    ]

pub returns-then-b-eq34 : goal.returns-then-b-eq34
returns-then-b-eq34 c =
    sym (quote_here c.args.text.now c.loop-i.i c.loop-i-test.true c.if-b-eq34.true)
    ∙ sym (ap (λ e. further c.loop-i.i (unescaped_quote e (drop c.loop-i.i c.args.text.now))) c.if-escape.false) ∙ c.loop-i.invariant

pub returns : goal.returns
returns c = sym (quote_past c.args.text.now c.loop-i.i c.loop-i.escape c.loop-i-test.false) ∙ c.loop-i.invariant

use Rattle.std.proofs.Common.{rules, ◌∙◌, ◌+◌, ap, sym, subst, false, eq-eqb, drop}
use Rattle.vex_lexer.specs.Longest.{IsLongest}
use Rattle.vex_lexer.specs.Words.{is_closed_by}
use Rattle.vex_lexer.proofs.Longest.{unequal}
use Rattle.vex_lexer.specs.Longest.{onto}
use Rattle.vex_lexer.proofs.Closings.{closing, closing_is, closing_past, closing_escape, closing_wrong, closing_plain, closing_broken, closing_here}
use Rattle.vex_lexer.proofs.quoted.closed_len.Goals as goal
use Rattle.vex_lexer.proofs.quoted.closed_len.Goals.{then-escape+else-not-is_escaped, else-escape+else-b-quote+else-b-eq10}

pub returns-then-not-is_escaped : goal.returns-then-not-is_escaped
returns-then-not-is_escaped c =
    let text = c.args.text.now in
    let quote = c.args.quote in
    let escape = ap (λ e. onto c.loop-i.i (closing quote e (drop c.loop-i.i text))) c.if-escape.true in
    let wrong = closing_wrong quote text c.loop-i.i c.loop-i-test.true (sym c.is_escaped.ensures ∙ search rules) in
    subst (IsLongest (is_closed_by quote false) text) (sym c.loop-i.invariant ∙ escape ∙ wrong) (closing_is quote false text)

pub returns-then-b-quote : goal.returns-then-b-quote
returns-then-b-quote c =
    let text = c.args.text.now in
    let quote = c.args.quote in
    let escape = ap (λ e. onto c.loop-i.i (closing quote e (drop c.loop-i.i text))) c.if-escape.false in
    let here = closing_here quote text c.loop-i.i c.loop-i-test.true (eq-eqb _ _ c.if-b-quote.true) in
    subst (IsLongest (is_closed_by quote false) text) (sym c.loop-i.invariant ∙ escape ∙ here) (closing_is quote false text)

pub returns-then-b-eq10 : goal.returns-then-b-eq10
returns-then-b-eq10 c =
    let text = c.args.text.now in
    let quote = c.args.quote in
    let escape = ap (λ e. onto c.loop-i.i (closing quote e (drop c.loop-i.i text))) c.if-escape.false in
    let broken = closing_broken quote text c.loop-i.i c.loop-i-test.true (unequal _ _ c.if-b-quote.false) (eq-eqb _ _ c.if-b-eq10.true) in
    subst (IsLongest (is_closed_by quote false) text) (sym c.loop-i.invariant ∙ escape ∙ broken) (closing_is quote false text)

pub loop-i-preserved : goal.loop-i-preserved
loop-i-preserved c =
    let text = c.args.text.now in
    let quote = c.args.quote in
    let i = c.loop-i.i in
    elim c.if-escape.branch [
      | then-escape+else-not-is_escaped w ↦
          (let escape = ap (λ e. onto i (closing quote e (drop i text))) w.if-escape.true in
          let next = closing_escape quote text i c.loop-i-test.true (sym w.is_escaped.ensures ∙ search rules) in
          ap (λ e. onto (i + 1) (closing quote e (drop (i + 1) text))) w.escape-is ∙ sym next ∙ sym escape ∙ c.loop-i.invariant)
      | else-escape+else-b-quote+else-b-eq10 w ↦
          (let escape = ap (λ e. onto i (closing quote e (drop i text))) w.if-escape.false in
          let next = closing_plain quote text i c.loop-i-test.true (unequal _ _ w.if-b-quote.false) (unequal _ _ w.if-b-eq10.false) in
          ap (λ e. onto (i + 1) (closing quote e (drop (i + 1) text))) w.escape-is ∙ sym next ∙ sym escape ∙ c.loop-i.invariant)
    ]

pub returns : goal.returns
returns c =
    let past = closing_past c.args.quote c.loop-i.escape c.args.text.now c.loop-i.i c.loop-i-test.false in
    subst (IsLongest (is_closed_by c.args.quote false) c.args.text.now) (sym c.loop-i.invariant ∙ past) (closing_is c.args.quote false c.args.text.now)

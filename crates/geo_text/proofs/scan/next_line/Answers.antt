use Rattle.std.proofs.Common.{◌∙◌, sym, arith}
use Rattle.geo_text.proofs.ObjScanning.{line_ends, line_goes, line_whole}
use Rattle.geo_text.proofs.scan.next_line.Goals as goal

pub returns-then-rest-at-eq10-clause-line : goal.returns-then-rest-at-eq10-clause-line
returns-then-rest-at-eq10-clause-line c =
    let (first, found) = c.in-Some.ensures in
    sym (line_ends c.loop-at.rest.now c.in-Some.at first.high first.before c.if-rest-at-eq10.true) ∙ c.loop-at.invariant.line

pub loop-at-preserved : goal.loop-at-preserved
loop-at-preserved c =
    let (first, found) = c.in-Some.ensures in
    record {
      line = sym c.behind_backslash-rest.ensures.line ∙ sym (line_goes c.loop-at.rest.now c.in-Some.at first.high first.before found c.if-rest-at-eq10.false) ∙ c.loop-at.invariant.line;
      within = omega (arith, c.behind_backslash-rest.ensures.within, c.loop-at.invariant.within);
    }

pub returns-clause-line : goal.returns-clause-line
returns-clause-line c = sym (line_whole c.loop-at.rest.now c.in_default.ensures) ∙ c.loop-at.invariant.line

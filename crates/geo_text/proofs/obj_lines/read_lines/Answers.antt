use Rattle.std.proofs.Common.{◌≡◌, ◌≤◌, sym, ap, ◌∙◌, subst, Ok}
use Rattle.geo_text.specs.ObjLines.{joined}
use Rattle.geo_text.specs.ObjMeaning.{counts_of, counted_in, piece_of}
use Rattle.geo_text.specs.ObjScan.{ends_in, joined_left, behind_line}
use Rattle.geo_text.specs.ObjRun.{taking_seen, taken_by}
use Rattle.geo_text.specs.ObjLoop.{IsTold, said_left, ends_left, number_at, counts_sum, outcome}
use Rattle.geo_text.proofs.ObjLooping.{said_first, ends_fewer, line_ends, line_here, outcome_more, outcome_refused, counts_more, counts_below}
use Rattle.geo_text.proofs.obj_lines.read_lines.Goals as goal

pub read_line-requires-clause-so_far : goal.read_line-requires-clause-so_far
read_line-requires-clause-so_far g c =
    let ends = ends_in (joined c.args.text.now) in
    let text = joined c.in-Some.line.now in
    let whole = c.args.totals.now.counts in
    let s = said_first ends text in
    let here = line_here ends c.loop-left.left c.in-Some.line c.in-Some.is c.loop-left.invariant.ends in
    let more = said_left ends (behind_line text) in
    counts_below (counted_in s.statement c.loop-left.state.so_far) (counts_of more) whole
    (counts_more c.loop-left.state.so_far whole (said_left ends (joined_left c.loop-left.left)) s more here c.loop-left.invariant.counts)

pub returns-in-Err-clause-err : goal.returns-in-Err-clause-err
returns-in-Err-clause-err g c =
    let ends = ends_in (joined c.args.text.now) in
    let text = joined c.in-Some.line.now in
    let s = said_first ends text in
    let here = line_here ends c.loop-left.left c.in-Some.line c.in-Some.is c.loop-left.invariant.ends in
    let before = taking_seen (g.T.ObjTaker.taken c.loop-left.taker) c.loop-left.state.groups in
    let has = g.T.ObjTaker.attributes c.args.taker.now in
    let t = c.args.totals.now in
    let refused = c.fault_at.ensures (piece_of (number_at ends text) t.counts c.loop-left.state.so_far s.statement) (c.in-Err.ensures.err (number_at ends text)) in
    subst (IsTold c.fault_at.result) c.loop-left.invariant.outcome
    (outcome_refused c.fault_at.result has t c.loop-left.state.so_far (said_left ends (joined_left c.loop-left.left)) s (said_left ends (behind_line text)) before here refused)

pub loop-left-preserved : goal.loop-left-preserved
loop-left-preserved g c =
    let ends = ends_in (joined c.args.text.now) in
    let text = joined c.in-Some.line.now in
    let s = said_first ends text in
    let all = said_left ends (joined_left c.loop-left.left) in
    let more = said_left ends (behind_line text) in
    let here = line_here ends c.loop-left.left c.in-Some.line c.in-Some.is c.loop-left.invariant.ends in
    let before = taking_seen (g.T.ObjTaker.taken c.loop-left.taker) c.loop-left.state.groups in
    let after = taking_seen (g.T.ObjTaker.taken c.read_line.new.taker) c.read_line.new.self.groups in
    let has = g.T.ObjTaker.attributes c.args.taker.now in
    let now = g.T.ObjTaker.attributes c.loop-left.taker in
    let t = c.args.totals.now in
    let so_far = c.loop-left.state.so_far in
    let next = c.next_line-left.ensures.line in
    let taken : taken_by s.line has t so_far s.statement before ≡ Ok after =
    ap (λ a. taken_by s.line a t so_far s.statement before) (sym c.loop-left.invariant.attributes) ∙ c.in_default-read_line.ensures.taken s.line in
    record {
      attributes = c.in_default-read_line.ensures.attributes ∙ c.loop-left.invariant.attributes;
      outcome = ap (λ n. outcome has t n (said_left ends (joined_left c.next_line-left.result)) after) c.in_default-read_line.ensures.so_far
          ∙ ap (λ l. outcome has t (counted_in s.statement so_far) (said_left ends l) after) next
          ∙ sym (outcome_more has t so_far all s more before after here taken) ∙ c.loop-left.invariant.outcome;
      counts = ap (λ n. counts_sum n (counts_of (said_left ends (joined_left c.next_line-left.result)))) c.in_default-read_line.ensures.so_far
          ∙ ap (λ l. counts_sum (counted_in s.statement so_far) (counts_of (said_left ends l))) next
          ∙ counts_more so_far t.counts all s more here c.loop-left.invariant.counts;
      ends = subst (λ l. ends_left l ≤ ends) (sym next) (ends_fewer text ends (line_ends ends c.loop-left.left c.in-Some.line c.in-Some.is c.loop-left.invariant.ends));
    }

use Rattle.std.proofs.Common.{◌∙◌, ◌-◌, ◌<◌, arith}
use Rattle.sop_claim.specs.Passes.{view_of, tickets}
use Rattle.sop_fan.proofs.Carrying.{above, draws_on, drawn_held, settled_on, share_on}
use Rattle.std.proofs.Common.{ap}
use Rattle.sop_fan.proofs.worker.work.Goals as goal

pub settle-requires-clause-held : goal.settle-requires-clause-held
settle-requires-clause-held g c κs within =
    drawn_held (view_of c.loop-k.haul.pass) (view_of c.draw.new.pass) c.in-Some.k c.loop-k.invariant.all_settled c.in-Some.ensures.drawn c.in-Some.ensures.ticket.1

pub loop-k-smaller : goal.loop-k-smaller
loop-k-smaller g c =
    let on = draws_on (view_of c.loop-k.haul.pass) (view_of c.draw.new.pass) c.in-Some.k (tickets c.args.board.now) c.in-Some.ensures.drawn c.in-Some.ensures.ticket.1 c.in-Some.ensures.ticket.0 in
    let same = ap above c.in_ok-settle.ensures.same.0 in
    let less : tickets c.args.board.now - above (view_of c.settle.new.haul.pass).drawn < tickets c.args.board.now - above (view_of c.loop-k.haul.pass).drawn =
    (let below = c.in-Some.ensures.ticket.0 in let low = on.0 in let high = on.1 in omega arith) in
    less

pub loop-k-preserved : goal.loop-k-preserved
loop-k-preserved g c =
    let i = c.loop-k.invariant in
    let shared = share_on (view_of c.loop-k.haul.pass) (view_of c.draw.new.pass) (view_of c.settle.new.haul.pass) c.in-Some.k c.in-Some.ensures.drawn c.in_ok-settle.ensures.same in
    record {
      of_board = c.in_ok-settle.ensures.pass;
      part_is = shared.0 ∙ i.part_is;
      room = let same = shared.1 in let any = i.room in omega arith;
      carries = c.in_ok-settle.ensures.carries;
      all_settled = settled_on (view_of c.loop-k.haul.pass) (view_of c.draw.new.pass) (view_of c.settle.new.haul.pass) c.in-Some.k i.all_settled c.in-Some.ensures.drawn c.in_ok-settle.ensures.same c.in_ok-settle.ensures.settled;
    }

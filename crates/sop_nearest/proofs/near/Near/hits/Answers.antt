use Rattle.sop_nearest.specs.Cells.{is_in_reach}
use Rattle.sop_nearest.proofs.Asked.{numbers_from, asked_from, scanned_from}
use Rattle.sop_nearest.proofs.near.Near.hits.Goals as goal
use Rattle.sop_nearest.proofs.near.Near.hits.Goals.{then-is_quicker+in_ok-measure, else-is_quicker+in_ok-measure_all}

pub measure-requires-clause-numbers : goal.measure-requires-clause-numbers
measure-requires-clause-numbers c =
    numbers_from c.self.inside.side c.self.inside.places.items c.self.inside.spots.items c.deref.result.now c.deref-then-is_quicker.result.now c.self.invariant c.deref.ensures.value c.deref-then-is_quicker.ensures.value

pub returns : goal.returns
returns c =
    elim c.if-is_quicker.branch [
      | then-is_quicker+in_ok-measure w ↦ rw w.hits-is (
          asked_from c.self.inside.side c.self.inside.places.items c.args.ball.now c.self.inside.spots.items (is_in_reach c.around-reach.result.x c.around-reach.result.y c.around-reach.result.z)
          c.args.self.now w.deref.result.now w.deref-then-is_quicker.result.now c.new-hits.result.items w.measure.new.hits.items c.self.invariant
          c.self.view_is w.deref.ensures.value w.deref-then-is_quicker.ensures.value c.new-hits.ensures.items c.around-reach.ensures w.in_ok-measure.ensures)
      | else-is_quicker+in_ok-measure_all w ↦ rw w.hits-is (
          scanned_from c.self.inside.places.items c.args.ball.now c.args.self.now w.deref-else-is_quicker.result.now c.new-hits.result.items w.measure_all.new.hits.items
          c.self.view_is w.deref-else-is_quicker.ensures.value c.new-hits.ensures.items w.in_ok-measure_all.ensures)
    ]

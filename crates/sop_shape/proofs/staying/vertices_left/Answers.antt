use Rattle.sop_shape.specs.Tests.{vertex_test}
use Rattle.sop_shape.proofs.StayLemmas.{flags_more}
use Rattle.sop_shape.proofs.staying.vertices_left.Goals as goal

pub loop-vertex-preserved : goal.loop-vertex-preserved
loop-vertex-preserved c =
    flags_more (vertex_test c.args.marks.now c.args.owners.now c.args.refers.now) c.loop-vertex.vertex c.vertex_stays.result c.loop-vertex.made.items c.push.new.self.items c.vertex_stays.ensures c.loop-vertex.invariant c.in_ok-push.ensures.items

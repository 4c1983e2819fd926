use Rattle.std.proofs.Common.{◌≤◌, sym, subst, drop, length, arith}
use Rattle.std.specs.Prelude.{All}
use Rattle.sop_net.specs.Needs.{IsFileNode, needed}
use Rattle.sopcook.proofs.LoadsLemmas.{taken_front}
use Rattle.sopcook.proofs.loads.load_needs.Goals as goal

pub load_files-requires : goal.load_files-requires
load_files-requires g c =
    let nodes = c.args.net.now.nodes in
    let room : c.needs-count.result ≤ c.in_ok-nodes.nodes.len = omega (arith, c.needs-count.ensures.few, c.in_ok-nodes.ensures.len) in
    let front = taken_front c.needs-count.result c.in_ok-nodes.nodes.len (needed nodes c.args.node) (drop c.needs-count.result c.deref_mut.result.now) c.needs-count.new.into
    (drop (length c.needs-count.new.into) c.in_ok-nodes.nodes.items) c.deref.result.now c.deref.ensures.value c.needs-count.ensures.written c.needs-count.ensures.count room in
    subst (All (IsFileNode nodes)) (sym front) c.needs-count.ensures.files

use Rattle.std.proofs.Common.{ap, ◌∙◌, sym, refl, arith}
use Rattle.sop_net.specs.declared.node_type.NodeType.TheVariants as type
use Rattle.sop_net.specs.NodeTable.{parms_of}
use Rattle.sop_net.specs.Network.{parm_at}
use Rattle.sop_basic.specs.ParmTexts.{count_in, number_in, vector_in}
use Rattle.sop_basic.proofs.ParmLemmas.{parm_read, value_at, count_between}
use Rattle.sop_basic.proofs.line.Line.of.Goals as goal

pub returns-clause-value : goal.returns-clause-value
returns-clause-value c =
    let texts = c.args.parms.now in
    let origin = c.vector_in.ensures ∙ ap vector_in (sym (parm_read texts 0 c.text.result.now c.text.ensures)) in
    let dir = c.vector_in-2.ensures ∙ ap vector_in (sym (parm_read texts 1 c.text-2.result.now c.text-2.ensures)) in
    let dist = c.number_in.ensures ∙ ap number_in (c.as_bytes.ensures.value ∙ sym (parm_read texts 2 c.text-3.result.now c.text-3.ensures)) in
    let points = c.count_in.ensures ∙ ap count_in (sym (parm_read texts 3 c.text-4.result.now c.text-4.ensures)) in
    λ i. record { origin = origin i; dir = dir i; dist = dist i; points = points i }

pub returns-clause-few : goal.returns-clause-few
returns-clause-few c =
    let texts = c.args.parms.now in
    let points = c.count_in.ensures ∙ ap count_in (sym (parm_read texts 3 c.text-4.result.now c.text-4.ensures)) in
    let within = count_between 1 1000000 (parm_at texts 3) (value_at (parms_of type.Line) texts c.requires 3 _ refl) in
    omega (arith, within.1)

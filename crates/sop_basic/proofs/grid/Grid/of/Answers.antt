use Rattle.std.proofs.Common.{ap, ◌∙◌, sym, refl, arith}
use Rattle.sop_net.specs.declared.node_type.NodeType.TheVariants as type
use Rattle.sop_net.specs.NodeTable.{parms_of}
use Rattle.sop_net.specs.Network.{parm_at}
use Rattle.sop_basic.specs.ParmTexts.{count_in, number_in}
use Rattle.sop_basic.proofs.ParmLemmas.{parm_read, value_at, count_between}
use Rattle.sop_basic.proofs.grid.Grid.of.Goals as goal

pub returns-clause-value : goal.returns-clause-value
returns-clause-value c =
    let texts = c.args.parms.now in
    let rows = c.count_in.ensures ∙ ap count_in (sym (parm_read texts 0 c.text.result.now c.text.ensures)) in
    let cols = c.count_in-2.ensures ∙ ap count_in (sym (parm_read texts 1 c.text-2.result.now c.text-2.ensures)) in
    let sizex = c.number_in.ensures ∙ ap number_in (c.as_bytes.ensures.value ∙ sym (parm_read texts 2 c.text-3.result.now c.text-3.ensures)) in
    let sizez = c.number_in-2.ensures ∙ ap number_in (c.as_bytes-2.ensures.value ∙ sym (parm_read texts 3 c.text-4.result.now c.text-4.ensures)) in
    λ i. record { rows = rows i; cols = cols i; sizex = sizex i; sizez = sizez i }

pub returns-clause-some_rows : goal.returns-clause-some_rows
returns-clause-some_rows c =
    let texts = c.args.parms.now in
    let rows = c.count_in.ensures ∙ ap count_in (sym (parm_read texts 0 c.text.result.now c.text.ensures)) in
    let within = count_between 1 1000 (parm_at texts 0) (value_at (parms_of type.Grid) texts c.requires 0 _ refl) in
    omega (arith, within.0)

pub returns-clause-rows : goal.returns-clause-rows
returns-clause-rows c =
    let texts = c.args.parms.now in
    let rows = c.count_in.ensures ∙ ap count_in (sym (parm_read texts 0 c.text.result.now c.text.ensures)) in
    let within = count_between 1 1000 (parm_at texts 0) (value_at (parms_of type.Grid) texts c.requires 0 _ refl) in
    omega (arith, within.1)

pub returns-clause-some_cols : goal.returns-clause-some_cols
returns-clause-some_cols c =
    let texts = c.args.parms.now in
    let cols = c.count_in-2.ensures ∙ ap count_in (sym (parm_read texts 1 c.text-2.result.now c.text-2.ensures)) in
    let within = count_between 1 1000 (parm_at texts 1) (value_at (parms_of type.Grid) texts c.requires 1 _ refl) in
    omega (arith, within.0)

pub returns-clause-cols : goal.returns-clause-cols
returns-clause-cols c =
    let texts = c.args.parms.now in
    let cols = c.count_in-2.ensures ∙ ap count_in (sym (parm_read texts 1 c.text-2.result.now c.text-2.ensures)) in
    let within = count_between 1 1000 (parm_at texts 1) (value_at (parms_of type.Grid) texts c.requires 1 _ refl) in
    omega (arith, within.1)

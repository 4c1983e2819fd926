use Rattle.std.proofs.Common.{◌∙◌, sym, ap, refl, length}
use Rattle.std.proofs.lemmas.List.{length-map}
use Rattle.sop_net.specs.Rows.{parm_meant}
use Rattle.sop_net.proofs.StagedLemmas.{staged-start, staged-step}
use Rattle.sop_net.proofs.staged.staged_pairs.Goals as goal

pub loop-left-init : goal.loop-left-init
loop-left-init c =
    let rows = c.row.result.now.parms.now in
    staged-start c.args.node_type c.args.pairs.now (length rows) c.in_ok-texts.texts.items (sym (length-map rows parm_meant) ∙ ap (λ row. length row.parms) c.row.ensures) c.in_ok-texts.ensures

pub loop-left-preserved : goal.loop-left-preserved
loop-left-preserved c =
    staged-step c.args.node_type c.args.pairs.now c.loop-left.left.now _ c.name-item.result c.value-item.result c.loop-left.texts.items c.in_ok-next.next c.loop-left.invariant
    c.in-len2-up.len_at_least c.name-item.is c.value-item.is refl
    (rw (c.as_str.ensures, c.as_str-in-len2-up.ensures) at c.in_ok-next.ensures.ok)
    (rw c.as_str.ensures at c.in_ok-next.ensures.text.0)
    (c.in_ok-next.ensures.text.1 ∙ c.as_str-in-len2-up.ensures)

use Rattle.std.proofs.Common.{false, get_or, ap, sym, ◌∙◌, arith}
use Rattle.sop_pattern.specs.Marks.{names_group}
use Rattle.sop_pattern.proofs.Groups.{group_marked, group_passed}
use Rattle.sop_pattern.proofs.marks.mark_groups.Goals as goal
use Rattle.sop_pattern.proofs.marks.mark_groups.Goals.{then-names_group, else-names_group}

pub loop-group-preserved : goal.loop-group-preserved
loop-group-preserved g c = λ e lt.
    let geo = g.V.GeoView.geo c.args.view.now in
    let old = get_or c.args.flags.now e false in
    let now = get_or c.loop-group.flags e false in
    let before = c.loop-group.invariant e (omega arith) in
    elim c.if-names_group.branch [
      | then-names_group w ↦
          ap (λ l. get_or l e false) w.flags-is
          ∙ group_marked (names_group c.args.atom.now) geo c.args.class c.loop-group.group c.group_name.result.now c.group_name.ensures e c.args.to old now before
          (get_or w.mark_group.new.flags e false) (sym c.names_group.ensures ∙ w.if-names_group.true) (w.mark_group.ensures e (omega arith))
      | else-names_group w ↦
          ap (λ l. get_or l e false) w.flags-is
          ∙ group_passed (names_group c.args.atom.now) geo c.args.class c.loop-group.group c.group_name.result.now c.group_name.ensures e c.args.to old now before
          (sym c.names_group.ensures ∙ w.if-names_group.false)
    ]

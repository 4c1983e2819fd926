use Rattle.std.proofs.Common.{◌≡◌, ◌+◌, ◌∙◌, ap, sym, arith}
use Rattle.sop_columns.specs.Bits.{flag}
use Rattle.sop_tables.proofs.BesideLemmas.{group_made}
use Rattle.sop_tables.proofs.MadeLemmas.{undone}
use Rattle.sop_tables.proofs.LoadedLemmas.{count_few}
use Rattle.sop_tables.specs.Loaded.{is_member}
use Rattle.sop_tables.proofs.loaded.group_in.Goals as goal

pub returns-in-Ok-clause-made : goal.returns-in-Ok-clause-made
returns-in-Ok-clause-made g c =
    group_made c.args.shelf.now c.fill_group.new.shelf _ (is_member (g.V.GeoView.geo c.args.view.now) c.args.class c.args.group) _ (count_few c.requires.readable c.args.class) c.fill_group.ensures.shifts c.fill_group.ensures.bits
    (λ i l. let e : 0 + i ≡ i = omega arith in ap (flag c.fill_group.new.shelf c.fill_group.new.made) (sym e) ∙ c.in-Ok.ensures.flags.more_are i l) (λ i l. c.in-Ok.ensures.flags.beyond_are i (omega arith)) c.fill_group.ensures.few

pub returns-in-Err-clause-err : goal.returns-in-Err-clause-err
returns-in-Err-clause-err g c = undone c.args.shelf.now c.fill_group.new.shelf _ _ c.fill_group.ensures.shifts c.release.ensures.shifts

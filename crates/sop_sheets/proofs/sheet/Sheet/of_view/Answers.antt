use Rattle.std.proofs.Common.{sym, subst}
use Rattle.sop_shape.specs.Shapes.{HasShape}
use Rattle.sop_sheets.proofs.CallLemmas.{err_by}
use Rattle.sop_sheets.proofs.MadeLemmas.{no_step}
use Rattle.sop_sheets.proofs.TwoLemmas.{first_goes, second_goes, both_gone}
use Rattle.sop_sheets.proofs.LoadedLemmas.{loaded_made, loaded_is}
use Rattle.sop_sheets.proofs.sheet.Sheet.of_view.Goals as goal

pub returns-in_err-shape-clause-err : goal.returns-in_err-shape-clause-err
returns-in_err-shape-clause-err g c = err_by c.from_residual.result (no_step c.args.shelf.now c.args.names.now)

pub returns-in_err-topology-clause-err : goal.returns-in_err-topology-clause-err
returns-in_err-topology-clause-err g c = err_by c.from_residual-in_err-topology.result (no_step c.args.shelf.now c.args.names.now)

pub release-requires : goal.release-requires
release-requires g c =
    let made = c.in_ok-front.ensures.made in
    record { held = first_goes c.args.shelf.now c.two_of_view.new.shelf c.args.names.now c.two_of_view.new.names _ _ made.shifts made.grows made.first.table made.second.table c.two_of_view-2.new.shelf c.two_of_view-2.new.names c.in-Err.ensures.err }

pub release-requires-in-Err : goal.release-requires-in-Err
release-requires-in-Err g c =
    let made = c.in_ok-front.ensures.made in
    record {
      held = second_goes c.args.shelf.now c.two_of_view.new.shelf c.args.names.now c.two_of_view.new.names _ _ made.shifts made.grows made.first.table made.second.table c.two_of_view-2.new.shelf c.two_of_view-2.new.names c.in-Err.ensures.err c.release.new.shelf c.release.ensures.shifts;
    }

pub returns-in-Err-clause-err : goal.returns-in-Err-clause-err
returns-in-Err-clause-err g c =
    let made = c.in_ok-front.ensures.made in
    both_gone c.args.shelf.now c.two_of_view.new.shelf c.args.names.now c.two_of_view.new.names _ _ made.shifts made.grows made.first.table made.second.table c.two_of_view-2.new.shelf c.two_of_view-2.new.names c.in-Err.ensures.err
    c.release.new.shelf c.release-in-Err.new.shelf c.release.ensures.shifts c.release-in-Err.ensures.shifts

pub returns-in-Ok-clause-made : goal.returns-in-Ok-clause-made
returns-in-Ok-clause-made g c =
    loaded_made c.args.shelf.now c.two_of_view.new.shelf c.two_of_view-2.new.shelf c.args.names.now c.two_of_view.new.names c.two_of_view-2.new.names (g.V.GeoView.geo c.args.view.now) c.in_ok-front.front.0 c.in_ok-front.front.1 c.in-Ok.back.0 c.in-Ok.back.1
    c.in_ok-front.ensures.made c.in-Ok.ensures.made c.in_ok-topology.topology (subst (HasShape (g.V.GeoView.geo c.args.view.now)) (sym c.in_ok-topology.ensures) c.in_ok-shape.ensures) c.requires.readable c.requires.values

pub returns-in-Ok-clause-geo : goal.returns-in-Ok-clause-geo
returns-in-Ok-clause-geo g c =
    loaded_is c.args.shelf.now c.two_of_view.new.shelf c.two_of_view-2.new.shelf c.args.names.now c.two_of_view.new.names c.two_of_view-2.new.names (g.V.GeoView.geo c.args.view.now) c.in_ok-front.front.0 c.in_ok-front.front.1 c.in-Ok.back.0 c.in-Ok.back.1
    c.in_ok-front.ensures.made c.in-Ok.ensures.made c.in_ok-topology.topology (subst (HasShape (g.V.GeoView.geo c.args.view.now)) (sym c.in_ok-topology.ensures) c.in_ok-shape.ensures) c.requires.readable c.requires.values

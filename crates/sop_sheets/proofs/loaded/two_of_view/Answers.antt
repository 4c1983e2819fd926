use Rattle.sop_sheets.proofs.TwoLemmas.{one_held, one_gone}
use Rattle.sop_sheets.proofs.LoadedLemmas.{two_loaded}
use Rattle.sop_sheets.proofs.loaded.two_of_view.Goals as goal

pub release-requires : goal.release-requires
release-requires g c = record {
  held = one_held c.args.shelf.now c.of_view.new.shelf c.of_view-2.new.shelf c.args.names.now c.of_view.new.names c.of_view-2.new.names c.in_ok-made.made c.in_ok-made.ensures.made c.in-Err.ensures.err;
}

pub returns-in-Err-clause-err : goal.returns-in-Err-clause-err
returns-in-Err-clause-err g c =
    one_gone c.args.shelf.now c.of_view.new.shelf c.of_view-2.new.shelf c.release.new.shelf c.args.names.now c.of_view.new.names c.of_view-2.new.names c.in_ok-made.made c.in_ok-made.ensures.made c.in-Err.ensures.err c.release.ensures.shifts

pub returns-in-Ok-clause-made : goal.returns-in-Ok-clause-made
returns-in-Ok-clause-made g c =
    let first = c.in_ok-made.ensures in
    let next = c.in-Ok.ensures in
    two_loaded c.args.shelf.now c.of_view.new.shelf c.of_view-2.new.shelf c.args.names.now c.of_view.new.names c.of_view-2.new.names _ c.args.first c.args.second c.in_ok-made.made c.in-Ok.next
    first.made first.set first.rows next.made next.set next.rows

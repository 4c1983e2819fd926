use Rattle.std.proofs.Common.{refl}
use Rattle.sop_model.specs.Rows.{column_of}
use Rattle.sop_tables.proofs.MadeLemmas.{no_step, on_err}
use Rattle.sop_tables.proofs.LoadedLemmas.{column_loaded, length-column}
use Rattle.sop_tables.proofs.loaded.column_in.Goals as goal

pub returns-in_err-pages-clause-err : goal.returns-in_err-pages-clause-err
returns-in_err-pages-clause-err g c = on_err _ (no_step _ _ _ _ refl c.pages_in.ensures.grows)

pub returns-in-Ok-clause-made : goal.returns-in-Ok-clause-made
returns-in-Ok-clause-made g c = λ any.
    let geo = g.V.GeoView.geo c.args.view.now in
    column_loaded c.args.shelf.now c.from_pages.new.shelf c.args.names.now c.pages_in.new.names _ any (column_of geo c.args.class c.args.head) c.in_ok-pages.pages c.in-Ok.column (length-column geo c.args.class c.args.head)
    c.in_ok-pages.ensures.stands c.pages_in.ensures.grows c.in-Ok.ensures.blocks (c.in-Ok.ensures.column c.pages_in.new.names c.in_ok-pages.ensures.stands.numbered) c.in-Ok.ensures.shifts

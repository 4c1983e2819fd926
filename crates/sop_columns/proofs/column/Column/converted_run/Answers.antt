use Rattle.std.proofs.Common.{◌∙◌, ◌+◌, ◌<◌, List, ap, length, get_or, arith, length-append}
use Rattle.sop_pages.specs.declared.cell.Cell.{Cell}
use Rattle.sop_cells.specs.declared.place.Place.{Place}
use Rattle.sop_cells.specs.Shelves.{column}
use Rattle.sop_columns.proofs.NameLemmas.{grows_then}
use Rattle.sop_columns.proofs.FittedLemmas.{run_more, cell_numbered, default_grows}
use Rattle.sop_columns.proofs.column.Column.converted_run.Goals as goal

pub loop-k-preserved : goal.loop-k-preserved
loop-k-preserved c =
    let at = c.get-cell.ensures ∙ ap (λ (p : List Place). get_or (column c.args.shelf.now p) (c.args.start + c.loop-k.k) c.get-cell.result) c.self.view_is in
    let w = c.requires.within in let t = c.loop-k-test.true in
    let within : c.args.start + c.loop-k.k < length (column c.args.shelf.now c.args.self.now) = omega arith in
    record {
      stands = run_more c.args.names.now c.loop-k.names c.fitted_or.new.self c.args.kind (column c.args.shelf.now c.args.self.now) c.args.start c.loop-k.k c.get-cell.result within at c.requires.numbered c.loop-k.invariant.grows
          _ _ c.in_ok-fitted_or.field-0 c.fitted_or.ensures.grows c.loop-k.invariant.stands c.in_ok-fitted_or.ensures.numbered c.in_ok-fitted_or.ensures.value c.in_ok-push.ensures.items;
      len = let e = ap (λ (cells : List Cell). length cells) c.in_ok-push.ensures.items in let l = c.loop-k.invariant.len in omega (arith, e, length-append {A = Cell});
      grows = grows_then _ _ _ c.loop-k.invariant.grows c.fitted_or.ensures.grows;
    }

pub fitted_or-requires-clause-default : goal.fitted_or-requires-clause-default
fitted_or-requires-clause-default c = default_grows c.args.names.now c.loop-k.names c.args.kind c.args.default.now c.loop-k.invariant.grows c.requires.default

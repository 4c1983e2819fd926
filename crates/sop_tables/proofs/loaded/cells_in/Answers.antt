use Rattle.std.proofs.Common.{◌∙◌, List, [], ap, sym, subst, length, arith, length-append}
use Rattle.sop_pages.specs.declared.cell.Cell.{Cell}
use Rattle.sop_model.specs.Values.{value_seen}
use Rattle.sop_columns.specs.Fitted.{StandsFor}
use Rattle.sop_columns.proofs.NameLemmas.{grows_none, grows_then}
use Rattle.sop_columns.proofs.FittedLemmas.{stands_none}
use Rattle.sop_tables.proofs.LoadedLemmas.{cell_more}
use Rattle.sop_tables.proofs.loaded.cells_in.Goals as goal

pub returns-in_err-cells-clause-grows : goal.returns-in_err-cells-clause-grows
returns-in_err-cells-clause-grows g c = grows_none c.args.names.now

pub loop-k-init : goal.loop-k-init
loop-k-init g c = record {
  stands = subst (λ (cells : List Cell). StandsFor c.args.names.now cells []) (sym c.in_ok-cells.ensures.items) (stands_none c.args.names.now);
  len = ap (λ (cells : List Cell). length cells) c.in_ok-cells.ensures.items;
  grows = grows_none c.args.names.now;
}

pub loop-k-preserved : goal.loop-k-preserved
loop-k-preserved g c = record {
  stands = cell_more (g.V.GeoView.geo c.args.view.now) c.args.class c.args.head c.args.start c.loop-k.k c.loop-k.names c.cell.new.self (value_seen c.value.result) c.in_ok-cell.field-0 c.loop-k.cells.items _
      (let w = c.requires.within in let t = c.loop-k-test.true in omega arith) c.value.ensures c.cell.ensures.grows c.loop-k.invariant.stands c.in_ok-cell.ensures.numbered (c.in_ok-cell.ensures.value ∙ c.in_ok-value.ensures.value) c.in_ok-push.ensures.items;
  len = let e = ap (λ (cells : List Cell). length cells) c.in_ok-push.ensures.items in let l = c.loop-k.invariant.len in omega (arith, e, length-append {A = Cell});
  grows = grows_then _ _ _ c.loop-k.invariant.grows c.cell.ensures.grows;
}

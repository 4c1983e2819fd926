use Rattle.std.proofs.Common.{◌∙◌, ◌^◌, ℕ, [], ◌∷◌, ◌++◌, sym, subst, arith}
use Rattle.sop_model.specs.Rows.{default_row}
use Rattle.sop_tables.specs.Tables.{table_room, rows}
use Rattle.sop_tables.specs.Changes.{ArePicks}
use Rattle.sop_tables.proofs.BesideLemmas.{less_room}
use Rattle.sop_sheets.specs.Sheets.{sheet_room}
use Rattle.sop_sheets.proofs.CallLemmas.{if_ok}
use Rattle.sop_sheets.proofs.TwoLemmas.{room_beside}
use Rattle.sop_sheets.proofs.AddLemmas.{middle_held, middle_goes, passed_made, passed_rows, passed_err}
use Rattle.sop_sheets.proofs.adding.picked_with_new.Goals as goal

pub changed-requires-clause-room : goal.changed-requires-clause-room
changed-requires-clause-room c = less_room c.args.shelf.now sheet_room table_room (omega arith) c.requires.room

pub changed-made-requires-clause-source : goal.changed-made-requires-clause-source
changed-made-requires-clause-source c = record {
  table = c.in_ok-longer.ensures.made.table;
  held = middle_held c.args.shelf.now c.changed.new.shelf c.changed.new.shelf c.args.names.now c.changed.new.names c.changed.new.names c.in_ok-longer.longer c.in_ok-longer.ensures.made;
  fits = subst (λ (k : ℕ). ArePicks k c.args.numbers.now) (sym c.in_ok-longer.ensures.count) c.requires.numbers;
}

pub changed-made-requires-clause-room : goal.changed-made-requires-clause-room
changed-made-requires-clause-room c =
    room_beside c.args.shelf.now c.changed.new.shelf c.args.names.now c.changed.new.names c.in_ok-longer.longer c.in_ok-longer.ensures.made
    (less_room c.args.shelf.now sheet_room (2 ^ 36) (omega arith) c.requires.room)

pub release-requires : goal.release-requires
release-requires c = record {
  held = middle_goes c.args.shelf.now c.changed.new.shelf c.changed-made.new.shelf c.args.names.now c.changed.new.names c.changed-made.new.names c.in_ok-longer.longer c.in_ok-longer.ensures.made
      c.changed-made.result c.changed-made.ensures.made c.changed-made.ensures.err;
}

pub returns-clause-set : goal.returns-clause-set
returns-clause-set c = if_ok c.changed-made.result (λ made same. same ∙ c.in_ok-longer.ensures.set) c.changed-made.ensures.set

pub returns-clause-rows : goal.returns-clause-rows
returns-clause-rows c =
    passed_rows c.args.shelf.now c.changed.new.shelf c.changed-made.new.shelf c.args.names.now c.changed.new.names c.changed-made.new.names c.in_ok-longer.longer c.in_ok-longer.ensures.made
    c.release.new.shelf c.release.ensures.shifts c.args.numbers.now (rows c.args.shelf.now c.args.names.now c.args.table.now ++ default_row c.args.table.now.set ∷ [])
    c.changed-made.result c.changed-made.ensures.made c.changed-made.ensures.rows c.in_ok-longer.ensures.rows

pub returns-clause-made : goal.returns-clause-made
returns-clause-made c =
    passed_made c.args.shelf.now c.changed.new.shelf c.changed-made.new.shelf c.args.names.now c.changed.new.names c.changed-made.new.names c.in_ok-longer.longer c.in_ok-longer.ensures.made
    c.release.new.shelf c.release.ensures.shifts c.changed-made.result c.changed-made.ensures.made

pub returns-clause-err : goal.returns-clause-err
returns-clause-err c =
    passed_err c.args.shelf.now c.changed.new.shelf c.changed-made.new.shelf c.args.names.now c.changed.new.names c.changed-made.new.names c.in_ok-longer.longer c.in_ok-longer.ensures.made
    c.release.new.shelf c.release.ensures.shifts c.changed-made.result c.changed-made.ensures.err

use Rattle.std.proofs.Common.{◌≡◌, ◌∙◌, [], List, length, replicate, ap, sym, subst}
use Rattle.std.specs.Prelude.{Option}
use Rattle.sop_cells.specs.declared.place.Place.{Place}
use Rattle.sop_model.specs.declared.geo.Head.{Head}
use Rattle.sop_tables.specs.Tables.{rows, IsTableMade}
use Rattle.sop_tables.specs.Fresh.{AreMade}
use Rattle.sop_tables.proofs.FreshLemmas.{new_made, new_rows, defaults_of}
use Rattle.sop_tables.proofs.table.Table.new.Goals as goal
use Rattle.sop_tables.proofs.table.Table.new.Goals.{In_ok-columns}

members : (c : In_ok-columns) → c.in_ok-members.members.items ≡ replicate (length c.args.set.groups) []
members c = c.in_ok-members.ensures ∙ ap (λ n. replicate n []) c.len.ensures

made : (c : In_ok-columns) → AreMade c.args.shelf.now c.fresh_columns.new.shelf c.args.names.now c.fresh_columns.new.names c.args.count c.args.set.heads (defaults_of c.args.count c.args.set.heads) c.in_ok-columns.columns.items
made c = subst (λ (hs : List Head). AreMade c.args.shelf.now c.fresh_columns.new.shelf c.args.names.now c.fresh_columns.new.names c.args.count hs (defaults_of c.args.count hs) c.in_ok-columns.columns.items) c.as_slice.ensures c.in_ok-columns.ensures.made

pub returns-clause-rows : goal.returns-clause-rows
returns-clause-rows c =
    ap (λ (ms : List (List (Option Place))). rows c.fresh_columns.new.shelf c.fresh_columns.new.names (record { set = c.args.set; columns = c.in_ok-columns.columns.items; members = ms; count = c.args.count })) (members c)
    ∙ new_rows c.args.shelf.now c.fresh_columns.new.shelf c.args.names.now c.fresh_columns.new.names c.args.set c.args.count c.in_ok-columns.columns.items c.requires.few c.requires.most (made c)

pub returns-clause-made : goal.returns-clause-made
returns-clause-made c =
    subst (λ (ms : List (List (Option Place))). IsTableMade c.args.shelf.now c.fresh_columns.new.shelf c.args.names.now c.fresh_columns.new.names (record { set = c.args.set; columns = c.in_ok-columns.columns.items; members = ms; count = c.args.count })) (sym (members c))
    (new_made c.args.shelf.now c.fresh_columns.new.shelf c.args.names.now c.fresh_columns.new.names c.args.set c.args.count c.in_ok-columns.columns.items c.requires.few c.requires.most (made c))

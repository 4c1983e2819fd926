use Rattle.std.proofs.Common.{◌≡◌, ◌∷◌, ◌++◌, ◌∙◌, List, [], map, ap, arith}
use Rattle.std.specs.Prelude.{Option}
use Rattle.std.proofs.lemmas.List.{map-append}
use Rattle.sop_cells.specs.declared.place.Place.{Place}
use Rattle.sop_columns.specs.Bits.{placed}
use Rattle.sop_tables.proofs.FlatLemmas.{last_held, rest_held, rest_shifts}
use Rattle.sop_tables.proofs.lots.release_members.Goals as goal

last : (ms rest : List (List (Option Place))) (p : List (Option Place)) → ms ≡ rest ++ p ∷ [] → map placed ms ≡ map placed rest ++ placed p ∷ []
last ms rest p e = ap (map placed) e ∙ map-append placed rest (p ∷ [])

pub release-requires : goal.release-requires
release-requires c =
    let h = last_held c.args.shelf.now c.loop-column.shelf _ (map placed c.loop-column.members.items) (map placed c.pop.new.self.items) (placed c.in-Some.column)
    (last c.loop-column.members.items c.pop.new.self.items c.in-Some.column c.in-Some.ensures.items) c.loop-column.invariant.shifts c.loop-column.invariant.held in
    record { bits = record { covered = h.covered; based = h.based } }

pub loop-column-preserved : goal.loop-column-preserved
loop-column-preserved c =
    let e = last c.loop-column.members.items c.pop.new.self.items c.in-Some.column c.in-Some.ensures.items in
    record {
      shifts = rest_shifts c.args.shelf.now c.loop-column.shelf _ (map placed c.loop-column.members.items) (map placed c.pop.new.self.items) (placed c.in-Some.column) e c.loop-column.invariant.shifts c.loop-column.invariant.held c.release.new.shelf c.release.ensures.shifts;
      held = rest_held c.args.shelf.now c.loop-column.shelf _ (map placed c.loop-column.members.items) (map placed c.pop.new.self.items) (placed c.in-Some.column) e c.loop-column.invariant.shifts c.loop-column.invariant.held c.release.new.shelf c.release.ensures.shifts;
      pages = let a = c.release.ensures.pages in let b = c.loop-column.invariant.pages in omega arith;
    }

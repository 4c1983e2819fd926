use Rattle.std.proofs.Common.{◌≡◌, ◌∙◌, ◌/◌, ◌+◌, ◌-◌, ◌<◌, ◌++◌, ℕ, ap, sym, subst, List, replicate, set, length}
use Rattle.std.specs.Prelude.{Option, Some, None}
use Rattle.sop_cells.specs.declared.place.Place.{Place}
use Rattle.sop_columns.proofs.BitLemmas.{IsSet, block_here, block_set, room_set, within_some}
use Rattle.sop_columns.proofs.bit_column.BitColumn.set.Goals as goal
use Rattle.sop_columns.proofs.bit_column.BitColumn.set.Goals.{After-self-1, After-drop-self-inside}

pub written-requires-clause-here : goal.written-requires-clause-here
written-requires-clause-here c = block_here _ c.args.self.now (c.args.k / 131072) _ c.requires.bits (sym c.place_of.ensures ∙ c.in-Some.is)

there : (c : After-self-1) → IsSet c.args.shelf.now c.written.new.shelf c.args.self.now (set c.self.inside.blocks.items (c.args.k / 131072) (Some c.in_ok-place-in-Some.place)) c.args.k
there c =
    let at = sym c.place_of.ensures ∙ c.in-Some.is in
    subst (λ (cs : List (Option Place)). IsSet c.args.shelf.now c.written.new.shelf c.args.self.now (set cs (c.args.k / 131072) (Some c.in_ok-place-in-Some.place)) c.args.k) (sym c.self.view_is)
    (block_set c.args.shelf.now c.written.new.shelf c.args.self.now c.args.k _ c.in_ok-place-in-Some.place at (within_some _ _ _ at) c.requires.bits
    c.in_ok-place-in-Some.ensures.shifts c.in_ok-place-in-Some.ensures.live c.in_ok-place-in-Some.ensures.others)

made : (c : After-drop-self-inside) → IsSet c.args.shelf.now c.fresh.new.shelf c.args.self.now (set c.in_ok-blocks-in-None.blocks.items (c.args.k / 131072) (Some c.in_ok-place-in-None.place)) c.args.k
made c =
    let n : ℕ = c.args.k / 131072 + 1 - length c.as_slice.result.now in
    let e : c.in_ok-blocks-in-None.blocks.items ≡ c.args.self.now ++ replicate n None =
    c.in_ok-blocks-in-None.ensures.items ∙ ap (λ (cs : List (Option Place)). cs ++ replicate n None) (c.as_slice.ensures.value ∙ c.self.view_is) in
    subst (λ (cs : List (Option Place)). IsSet c.args.shelf.now c.fresh.new.shelf c.args.self.now (set cs (c.args.k / 131072) (Some c.in_ok-place-in-None.place)) c.args.k) (sym e)
    (room_set c.args.shelf.now c.fresh.new.shelf c.args.self.now n c.args.k c.in_ok-place-in-None.place (sym c.place_of.ensures ∙ c.in-None.is)
    (subst (λ (cs : List (Option Place)). c.args.k / 131072 < length cs) e c.in_ok-blocks-in-None.ensures.within) c.requires.bits
    c.in_ok-place-in-None.ensures.shifts c.in_ok-place-in-None.ensures.live c.in_ok-place-in-None.ensures.others)

pub returns-in_ok-place-in-Some-clause-others : goal.returns-in_ok-place-in-Some-clause-others
returns-in_ok-place-in-Some-clause-others c = (there c).others

pub returns-in_ok-place-in-Some-clause-bits : goal.returns-in_ok-place-in-Some-clause-bits
returns-in_ok-place-in-Some-clause-bits c = (there c).bits

pub returns-in_ok-place-in-Some-clause-shifts : goal.returns-in_ok-place-in-Some-clause-shifts
returns-in_ok-place-in-Some-clause-shifts c = (there c).shifts

pub returns-in_ok-place-in-None-clause-others : goal.returns-in_ok-place-in-None-clause-others
returns-in_ok-place-in-None-clause-others c = (made c).others

pub returns-in_ok-place-in-None-clause-bits : goal.returns-in_ok-place-in-None-clause-bits
returns-in_ok-place-in-None-clause-bits c = (made c).bits

pub returns-in_ok-place-in-None-clause-shifts : goal.returns-in_ok-place-in-None-clause-shifts
returns-in_ok-place-in-None-clause-shifts c = (made c).shifts

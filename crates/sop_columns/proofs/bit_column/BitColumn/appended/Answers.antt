use Rattle.std.proofs.Common.{◌≡◌, ◌∙◌, ℕ, List, ap, arith, length}
use Rattle.std.specs.Prelude.{Option}
use Rattle.sop_cells.specs.declared.place.Place.{Place}
use Rattle.sop_columns.specs.Bits.{flag}
use Rattle.sop_columns.proofs.BitLemmas.{flag_beside, joined_same, joined_off, none_flag}
use Rattle.sop_columns.proofs.bit_column.BitColumn.appended.Goals as goal
use Rattle.sop_columns.proofs.bit_column.BitColumn.appended.Goals.{After-hold}

held : (c : After-hold) (k : ℕ) → flag c.hold.new.shelf c.in_ok-made.made k ≡ flag c.args.shelf.now c.args.self.now k
held c k =
    ap (λ (cs : List (Option Place)). flag c.hold.new.shelf cs k) c.in_ok-made.ensures
    ∙ flag_beside c.args.shelf.now c.hold.new.shelf _ _ c.args.self.now c.hold.ensures.shifts c.requires.bits (λ x. let b = c.requires.bits.covered.each x in omega arith) k

held_more : (c : After-hold) (k : ℕ) → flag c.hold.new.shelf c.args.more.now k ≡ flag c.args.shelf.now c.args.more.now k
held_more c = flag_beside c.args.shelf.now c.hold.new.shelf _ _ c.args.more.now c.hold.ensures.shifts c.requires.more_bits (λ x. let b = c.requires.more_bits.covered.each x in omega arith)

pub join_into-requires-clause-off : goal.join_into-requires-clause-off
join_into-requires-clause-off c = λ k h. held (goal.at.join_into-requires-clause-off c).After-hold k ∙ c.requires.off k h

pub returns-clause-flags : goal.returns-clause-flags
returns-clause-flags c = let p = (goal.at.returns-clause-flags c).After-hold in joined_same _ _ _ _ _ _ _ c.in_default.ensures.flags (held p) (held_more p)

pub returns-clause-few : goal.returns-clause-few
returns-clause-few c = λ n a b. let e = ap (λ (cs : List (Option Place)). length cs) c.in_ok-made.ensures in c.join_into.ensures.few n (omega arith) b

pub returns-then-has_no_blocks-clause-flags : goal.returns-then-has_no_blocks-clause-flags
returns-then-has_no_blocks-clause-flags c = joined_off _ _ _ _ _ (held (goal.at.returns-then-has_no_blocks-clause-flags c).After-hold) c.requires.off (none_flag c.args.shelf.now c.args.more.now (c.has_no_blocks.ensures c.if-has_no_blocks.true))

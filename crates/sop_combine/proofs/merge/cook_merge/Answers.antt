use Rattle.std.proofs.Common.{subst, Ok, List}
use Rattle.std.specs.Prelude.{Option}
use Rattle.sop_model.specs.declared.geo.Geo.{Geo}
use Rattle.sop_model.specs.Geometry.{empty_geo}
use Rattle.sop_model.specs.Merge.{merged}
use Rattle.sop_basic.specs.Outcomes.{limited}
use Rattle.sop_basic.specs.Making.{Gives}
use Rattle.sop_basic.specs.Cook.{inputs_seen}
use Rattle.sop_basic.proofs.MakingLemmas.{prepares_live}
use Rattle.sop_combine.specs.Combine.{wired}
use Rattle.sop_combine.proofs.MergeLemmas.{inputs_are, inputs_same}
use Rattle.sop_combine.proofs.merge.cook_merge.Goals as goal

pub append_all-made-requires-clause-inputs : goal.append_all-made-requires-clause-inputs
append_all-made-requires-clause-inputs c = inputs_are c.args.vault.now c.empty.new.self c.in_ok-key.key empty_geo c.is_vault.ensures c.in_ok-key.ensures.ok c.args.inputs.now c.requires

pub finish-requires : goal.finish-requires
finish-requires c = prepares_live c.empty.new.self c.append_all-made.new.vault c.in_ok-key.key (Ok (merged (wired (inputs_seen c.empty.new.self c.args.inputs.now)))) c.append_all-made.result c.append_all-made.ensures

pub returns : goal.returns
returns c =
    let v = c.args.vault.now in
    let opened = c.empty.new.self in
    let inputs = c.args.inputs.now in
    subst (λ (os : List (Option Geo)). Gives v c.finish.new.vault (limited (Ok (merged (wired os)))) c.finish.result) (inputs_same v opened c.in_ok-key.key empty_geo c.is_vault.ensures c.in_ok-key.ensures.ok inputs c.requires)
    (c.finish.ensures.gives v opened empty_geo (Ok (merged (wired (inputs_seen opened inputs)))) c.in_ok-key.ensures.ok c.append_all-made.ensures)

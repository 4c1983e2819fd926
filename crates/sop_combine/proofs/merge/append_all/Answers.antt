use Rattle.std.proofs.Common.{arith, ℕ, List, take, drop, ◌+◌, sym, subst, Ok, Err}
use Rattle.std.specs.Prelude.{All, Option}
use Rattle.std.proofs.lemmas.List.{take_all}
use Rattle.std.proofs.lemmas.List.Elements.{All-drop}
use Rattle.sop_model.specs.Merge.{merged}
use Rattle.sop_basic.specs.Making.{Prepares}
use Rattle.sop_basic.specs.Cook.{inputs_seen}
use Rattle.sop_basic.proofs.MakingLemmas.{ended_as}
use Rattle.sop_combine.specs.Combine.{wired}
use Rattle.sop_combine.specs.Steps.{IsInput}
use Rattle.sop_combine.proofs.MergeLemmas.{IsMerging, merging_none, merging_live, input_live, merging_more, merging_stopped, merging_done, one_more, split_there, input_there}
use Rattle.sop_combine.proofs.merge.append_all.Goals as goal

pub loop-input-init : goal.loop-input-init
loop-input-init c = merging_none c.args.vault.now c.args.key c.requires.fresh

pub append_input-requires-clause-live : goal.append_input-requires-clause-live
append_input-requires-clause-live c = merging_live c.args.vault.now c.loop-input.vault c.args.key (take c.loop-input.input-index c.args.inputs.now) c.loop-input.invariant

pub append_input-requires-clause-input : goal.append_input-requires-clause-input
append_input-requires-clause-input c =
    let v = c.args.vault.now in
    let i = c.loop-input.input-index in
    input_live v c.loop-input.vault c.args.key (take i c.args.inputs.now) c.loop-input.invariant c.input-item.result (input_there v c.args.key c.args.inputs.now i c.input-item.result c.requires.inputs c.loop-input-test.true c.input-item.is)

pub returns-in_err-append_input : goal.returns-in_err-append_input
returns-in_err-append_input c =
    let v = c.args.vault.now in
    let i = c.loop-input.input-index in
    let inputs = c.args.inputs.now in
    let item = c.input-item.result in
    let m = c.loop-input.invariant in
    let split = split_there inputs i item c.loop-input-test.true c.input-item.is in
    ended_as c.from_residual.result c.in_err-append_input.field-0.0 (Prepares v c.append_input.new.vault c.args.key (Ok (merged (wired (inputs_seen v inputs))))) c.from_residual.ensures.1
    (subst (λ (all : List (Option ℕ)). Prepares v c.append_input.new.vault c.args.key (Ok (merged (wired (inputs_seen v all)))) (Err c.in_err-append_input.field-0.0)) (sym split)
    (merging_stopped v c.loop-input.vault c.args.key (take i inputs) m c.append_input.new.vault item (input_there v c.args.key inputs i item c.requires.inputs c.loop-input-test.true c.input-item.is) (drop (i + 1) inputs)
    (subst (λ (all : List (Option ℕ)). All (IsInput v c.args.key) all) split c.requires.inputs) (All-drop (IsInput v c.args.key) (i + 1) inputs c.requires.inputs) c.in_err-append_input.field-0.0 (c.in_err-append_input.ensures m.geo m.state.geos.here)))

pub loop-input-preserved : goal.loop-input-preserved
loop-input-preserved c =
    let v = c.args.vault.now in
    let i = c.loop-input.input-index in
    let inputs = c.args.inputs.now in
    let item = c.input-item.result in
    let m = c.loop-input.invariant in
    subst (IsMerging v c.append_input.new.vault c.args.key) (sym (one_more inputs i item c.loop-input-test.true c.input-item.is))
    (merging_more v c.loop-input.vault c.args.key (take i inputs) m c.append_input.new.vault item (input_there v c.args.key inputs i item c.requires.inputs c.loop-input-test.true c.input-item.is) (c.in_ok-append_input.ensures m.geo m.state.geos.here))

pub returns : goal.returns
returns c =
    let inputs = c.args.inputs.now in
    let all = take_all c.loop-input.input-index inputs (let no = c.loop-input-test.false in omega arith) in
    merging_done c.args.vault.now c.loop-input.vault c.args.key inputs (subst (IsMerging c.args.vault.now c.loop-input.vault c.args.key) all c.loop-input.invariant) c.requires.inputs

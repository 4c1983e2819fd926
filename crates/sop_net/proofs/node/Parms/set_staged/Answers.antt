use Rattle.std.proofs.Common.{◌≡◌, ◌∙◌, ap, sym, [], length, rules, arith}
use Rattle.sop_net.specs.Staged.{staged_over}
use Rattle.sop_net.proofs.StagedLemmas.{over-none, over-step}
use Rattle.sop_net.proofs.node.Parms.set_staged.Goals as goal

pub loop-text-preserved : goal.loop-text-preserved
loop-text-preserved c =
    let texts = c.loop-text.self-inside.texts.items in
    let place : c.len.result ≡ length c.pop.new.self.items = omega arith in
    let step = over-step texts c.loop-text.staged.items c.pop.new.self.items c.in-Some.text c.len.result c.index_mut.result.now c.replace.new.text
    c.in-Some.ensures.items c.loop-text.invariant.1 place c.index_mut.ensures.value c.replace.ensures in
    (step.0 ∙ c.loop-text.invariant.0, step.1)

pub returns : goal.returns
returns c =
    let none : c.loop-text.staged.items ≡ [] = search rules in
    sym (over-none c.loop-text.self-inside.texts.items) ∙ ap (staged_over c.loop-text.self-inside.texts.items) (sym none) ∙ c.loop-text.invariant.0

use Rattle.std.proofs.Common.{◌∙◌, sym, ap, inr, None, Some}
use Rattle.std.specs.Prelude.{if◌then◌else◌}
use Rattle.sop_net.specs.declared.net_end.NetEnd.TheVariants.{BadValue}
use Rattle.sop_net.proofs.StagedLemmas.{judged-none, judged-some}
use Rattle.sop_net.proofs.staged.staged_text.Goals as goal

pub returns-in_default-clause-refused : goal.returns-in_default-clause-refused
returns-in_default-clause-refused c = inr (judged-none c.row.result.now.parms.now c.args.node_type c.args.name.now c.args.value.now (ap (λ row. row.parms) c.row.ensures) (sym c.in_default.ensures))

pub returns-then-not-takes-clause-refused : goal.returns-then-not-takes-clause-refused
returns-then-not-takes-clause-refused c =
    inr (judged-some c.row.result.now.parms.now c.args.node_type c.args.name.now c.args.value.now (ap (λ row. row.parms) c.row.ensures) c.in-Some.at _ (sym c.in-Some.ensures) c.takes.result c.takes.ensures
    ∙ ap (λ b. if b then None else Some BadValue) c.if-not-takes.true)

pub returns-clause-ok : goal.returns-clause-ok
returns-clause-ok c =
    judged-some c.row.result.now.parms.now c.args.node_type c.args.name.now c.args.value.now (ap (λ row. row.parms) c.row.ensures) c.in-Some.at _ (sym c.in-Some.ensures) c.takes.result c.takes.ensures
    ∙ ap (λ b. if b then None else Some BadValue) c.if-not-takes.false

use Rattle.std.proofs.Common.{ap, sym, ◌∙◌, Ok}
use Rattle.sop_model.specs.declared.value.Value.TheVariants as value
use Rattle.sop_model.specs.Rows.{value_set}
use Rattle.sop_basic.specs.Fillings.{filled_with}
use Rattle.sop_basic.proofs.MakingLemmas.{makes_as}
use Rattle.sop_basic.proofs.filling.fill_one.Goals as goal

pub returns-in-Counted : goal.returns-in-Counted
returns-in-Counted c = λ g there.
    makes_as c.args.vault.now c.set_value-in-Counted.new.vault c.args.key (Ok (value_set g c.args.class c.args.head c.args.element (value.Int c.int_of.result))) (Ok (value_set g c.args.class c.args.head c.args.element (filled_with c.args.filling.now c.args.before))) c.set_value-in-Counted.result
    (ap (λ v. Ok (value_set g c.args.class c.args.head c.args.element v)) (ap value.Int c.int_of.ensures ∙ sym (ap (λ f. filled_with f c.args.before) c.in-Counted.is)))
    (c.set_value-in-Counted.ensures g there)

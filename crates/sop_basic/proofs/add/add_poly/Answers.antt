use Rattle.std.proofs.Common.{sym, ◌∙◌, subst, Some}
use Rattle.sop_model.specs.declared.geo.Geo.{Geo}
use Rattle.sop_vault.specs.Vaults.{Changed}
use Rattle.sop_basic.proofs.AddLemmas.{stays_so, poly_none}
use Rattle.sop_basic.proofs.add.add_poly.Goals as goal

pub returns-else-eq-2 : goal.returns-else-eq-2
returns-else-eq-2 c = λ g places there many.
    let v = c.args.vault.now in
    subst (λ (x : Geo). Changed v v c.args.key (Some x)) (sym (poly_none g c.args.poly.now c.args.first places (sym c.eq.ensures ∙ c.if-eq.false) (sym c.eq-else-eq.ensures ∙ c.if-eq-2.false))) (stays_so v c.args.key g there)

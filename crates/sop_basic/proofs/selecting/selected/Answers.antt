use Rattle.std.proofs.Common.{sym, subst}
use Rattle.sop_model.specs.declared.geo.Geo.{Geo}
use Rattle.sop_model.specs.declared.fault.CookStop.{CookStop}
use Rattle.sop_vault.specs.Keyed.{at}
use Rattle.sop_basic.specs.Selecting.{by_pattern, StopsWith}
use Rattle.sop_basic.proofs.MakingLemmas.{same_there}
use Rattle.sop_basic.proofs.SelectLemmas.{select_stops}
use Rattle.sop_basic.proofs.selecting.selected.Goals as goal

pub returns-clause-err : goal.returns-clause-err
returns-clause-err c = λ g there.
    let same = same_there (at c.args.vault.now.geos c.args.key) c.view.result g c.view.ensures.geo there in
    let fault = c.in-Err-select.fault in
    subst (λ (x : Geo). StopsWith (by_pattern x c.args.class c.args.text.now) c.pattern_stop-in-Err-select.result) same
    (subst (λ (s : CookStop). StopsWith (by_pattern c.view.result c.args.class c.args.text.now) s) (sym c.pattern_stop-in-Err-select.ensures) (select_stops c.view.result c.args.class c.args.text.now _ c.in-Ok.ensures.ok fault c.in-Err-select.ensures.err))

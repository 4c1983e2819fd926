use Rattle.std.proofs.Common.{sym, subst, Some, Err}
use Rattle.std.specs.Prelude.{IfSome}
use Rattle.sop_model.specs.declared.geo.Geo.{Geo}
use Rattle.sop_model.specs.declared.fault.CookStop.{CookStop}
use Rattle.sop_model.specs.Appending.{appended}
use Rattle.sop_vault.specs.Keyed.{at}
use Rattle.sop_vault.specs.Vaults.{Changed}
use Rattle.sop_vault.specs.Refusals.{append_refused}
use Rattle.sop_basic.specs.Additions.{Extends}
use Rattle.sop_basic.proofs.MakingLemmas.{if_there}
use Rattle.sop_combine.proofs.MergeLemmas.{append_stops}
use Rattle.sop_combine.proofs.merge.append.Goals as goal

pub returns-in-Err : goal.returns-in-Err
returns-in-Err c = λ a b into from.
    let old = c.args.vault.now in
    let new = c.append.new.self in
    let refused = if_there (at old.geos c.args.key) (λ (a : Geo). append_refused a b c.in-Err.end) a into
    (if_there (at old.geos c.args.from) (λ (b : Geo). IfSome (at old.geos c.args.key) (λ a. append_refused a b c.in-Err.end)) b from c.in-Err.ensures.refused) in
    subst (λ (s : CookStop). Extends old new c.args.key (appended a b) (Err s)) (sym c.stop_of.ensures) (append_stops old new c.args.key a b c.in-Err.end into refused c.in-Err.ensures.err)

pub returns : goal.returns
returns c = λ a b into from.
    let old = c.args.vault.now in
    let new = c.append.new.self in
    if_there (at old.geos c.args.key) (λ (a : Geo). Changed old new c.args.key (Some (appended a b))) a into
    (if_there (at old.geos c.args.from) (λ (b : Geo). IfSome (at old.geos c.args.key) (λ a. Changed old new c.args.key (Some (appended a b)))) b from c.in_default.ensures.ok)

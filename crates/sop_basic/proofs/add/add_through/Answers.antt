use Rattle.std.proofs.Common.{◌≡◌, ◌+◌, ap, sym, ◌∙◌, subst, Some, Err, length, arith}
use Rattle.sop_model.specs.declared.geo.Geo.{Geo}
use Rattle.sop_model.specs.declared.fault.CookStop.{CookStop}
use Rattle.sop_model.specs.declared.fault.CookStop.TheVariants.{Memory}
use Rattle.sop_model.specs.Rows.{prim_added}
use Rattle.sop_vault.specs.Keyed.{at}
use Rattle.sop_vault.specs.Vaults.{Changed}
use Rattle.sop_basic.specs.Add.{with_prim}
use Rattle.sop_basic.specs.Making.{stop_of}
use Rattle.sop_basic.specs.Additions.{Extends}
use Rattle.sop_basic.proofs.MakingLemmas.{same_there, untouched, ended_as}
use Rattle.sop_basic.proofs.AddLemmas.{stays_so, with_prim_none, with_prim_is, through_refused}
use Rattle.sop_basic.proofs.add.add_through.Goals as goal

pub returns-then-end-first : goal.returns-then-end-first
returns-then-end-first c = λ g places there many.
    let v = c.args.vault.now in
    let count = c.count-end.ensures ∙ ap (λ (x : Geo). length x.points) (same_there (at v.geos c.args.key) c.view.result g c.view.ensures.geo there) in
    let none : length places ≡ 0 = let le = c.if-end-first.true in omega arith in
    subst (λ (x : Geo). Changed v v c.args.key (Some x)) (sym (with_prim_none c.args.closed g c.args.first places none)) (stays_so v c.args.key g there)

pub returns-in_err-numbers : goal.returns-in_err-numbers
returns-in_err-numbers c = λ g places there many.
    let v = c.args.vault.now in
    ended_as c.from_residual.result Memory (Extends v v c.args.key (with_prim c.args.closed g c.args.first places)) c.from_residual.ensures.1 (untouched v c.args.key g there)

pub returns-in-Err : goal.returns-in-Err
returns-in-Err c = λ g places there many.
    let old = c.args.vault.now in
    let new = c.add_prim.new.self in
    let count : c.count-end.result ≡ c.args.first + length places = c.count-end.ensures ∙ ap (λ (x : Geo). length x.points) (same_there (at old.geos c.args.key) c.view.result g c.view.ensures.geo there) ∙ many in
    let made : prim_added g c.args.closed c.as_slice.result.now ≡ with_prim c.args.closed g c.args.first places =
    ap (prim_added g c.args.closed) (c.as_slice.ensures.value ∙ c.in_ok-numbers.ensures) ∙ with_prim_is c.args.closed g c.args.first c.count-end.result places count c.if-end-first.false in
    subst (λ (s : CookStop). Extends old new c.args.key (with_prim c.args.closed g c.args.first places) (Err s)) (sym c.stop_of.ensures)
    (subst (λ (x : Geo). Extends old new c.args.key x (Err (stop_of c.in-Err.end))) made
    (through_refused old new c.args.key c.args.closed c.as_slice.result.now c.requires c.in-Err.end c.in-Err.ensures.refused c.in-Err.ensures.err g there))

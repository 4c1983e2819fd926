use Rattle.std.proofs.Common.{◌≡◌, refl, sym, ap, ◌∙◌, subst, Some, Ok}
use Rattle.std.specs.Prelude.{pos}
use Rattle.sop_model.specs.declared.geo.Geo.{Geo}
use Rattle.sop_model.specs.declared.geo.Head.{Head}
use Rattle.sop_model.specs.declared.value.Kind.TheVariants as kind
use Rattle.sop_model.specs.declared.value.Value.TheVariants as value
use Rattle.sop_model.specs.Geometry.{count_of}
use Rattle.sop_model.specs.Rows.{kind_at}
use Rattle.sop_vault.specs.Keyed.{at}
use Rattle.sop_basic.specs.Heads.{with_head}
use Rattle.sop_basic.specs.Making.{Prepares}
use Rattle.sop_basic.specs.Enumerate.{counted_from, counted_under}
use Rattle.sop_basic.specs.Fillings.{filled}
use Rattle.sop_basic.proofs.MakingLemmas.{same_there, there_is, ended_as, makes_then, prepares_of}
use Rattle.sop_basic.proofs.ColumnLemmas.{head_stopped, with_head_count, counted_is}
use Rattle.sop_basic.proofs.enumerate.count_elements.Goals as goal

pub returns-in_err-head : goal.returns-in_err-head
returns-in_err-head c = λ g there.
    let h : Head = record { name = c.args.name.now; kind = kind.Int } in
    ended_as c.from_residual.result c.in_err-head.field-0.0 (Prepares c.args.vault.now c.ensure_head.new.vault c.args.key (Ok (counted_under c.args.class c.args.name.now g c.args.selected.now))) c.from_residual.ensures.1
    (head_stopped c.args.vault.now c.ensure_head.new.vault c.args.key c.args.class h (with_head g c.args.class h) (counted_from 0 c.args.selected.now) c.in_err-head.field-0.0 (c.in_err-head.ensures g there))

pub fill-requires-clause-each : goal.fill-requires-clause-each
fill-requires-clause-each c = λ g there.
    let h : Head = record { name = c.args.name.now; kind = kind.Int } in
    let (opening, opens) = there_is (at c.args.vault.now.geos c.args.key) c.requires.live in
    let (ch, is) = c.in_ok-head.ensures opening opens in
    c.requires.each opening opens ∙ sym (with_head_count opening c.args.class h)
    ∙ ap (λ (x : Geo). count_of x c.args.class) (same_there (at c.ensure_head.new.vault.geos c.args.key) (with_head opening c.args.class h) g ch.geos.here there)

pub fill-requires-clause-kinds : goal.fill-requires-clause-kinds
fill-requires-clause-kinds c = λ g there i.
    let h : Head = record { name = c.args.name.now; kind = kind.Int } in
    let (opening, opens) = there_is (at c.args.vault.now.geos c.args.key) c.requires.live in
    let (ch, is) = c.in_ok-head.ensures opening opens in
    subst (λ (x : Geo). kind_at x c.args.class c.in_ok-head.head ≡ Some kind.Int) (same_there (at c.ensure_head.new.vault.geos c.args.key) (with_head opening c.args.class h) g ch.geos.here there) is.kind

pub returns : goal.returns
returns c = λ g there.
    let h : Head = record { name = c.args.name.now; kind = kind.Int } in
    let after = with_head g c.args.class h in
    let (ch, is) = c.in_ok-head.ensures g there in
    let made = filled (λ k. value.Int (pos k)) c.args.class c.in_ok-head.head c.args.selected.now after in
    subst (λ (x : Geo). Prepares c.args.vault.now c.fill.new.vault c.args.key (Ok x) c.fill.result)
    (counted_is after c.args.class c.args.name.now c.in_ok-head.head c.args.selected.now is.named)
    (prepares_of c.args.vault.now c.fill.new.vault c.args.key (Ok made) c.fill.result
    (makes_then c.args.vault.now c.ensure_head.new.vault c.fill.new.vault c.args.key (Ok after) (λ (x : Geo). Ok (filled (λ k. value.Int (pos k)) c.args.class c.in_ok-head.head c.args.selected.now x)) after c.fill.result refl ch (c.fill.ensures after ch.geos.here)))

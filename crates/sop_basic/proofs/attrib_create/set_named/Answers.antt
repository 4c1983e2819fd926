use Rattle.std.proofs.Common.{◌≡◌, refl, sym, ap, ◌∙◌, subst, Some, Ok}
use Rattle.sop_model.specs.declared.geo.Geo.{Geo}
use Rattle.sop_model.specs.declared.geo.Head.{Head}
use Rattle.sop_model.specs.declared.value.Kind.{Kind}
use Rattle.sop_model.specs.Geometry.{count_of}
use Rattle.sop_model.specs.Values.{kind_of}
use Rattle.sop_model.specs.Rows.{kind_at}
use Rattle.sop_vault.specs.Keyed.{at}
use Rattle.sop_basic.specs.Heads.{with_head, with_column}
use Rattle.sop_basic.specs.Making.{Prepares}
use Rattle.sop_basic.specs.AttribCreate.{set_where}
use Rattle.sop_basic.specs.Fillings.{filled}
use Rattle.sop_basic.proofs.MakingLemmas.{same_there, there_is, ended_as, makes_then, prepares_of}
use Rattle.sop_basic.proofs.ColumnLemmas.{head_stopped, with_head_count}
use Rattle.sop_basic.proofs.CreateLemmas.{set_is}
use Rattle.sop_basic.proofs.attrib_create.set_named.Goals as goal

pub returns-in_err-head : goal.returns-in_err-head
returns-in_err-head c = λ g there.
    let v = c.args.value.now in
    let h : Head = record { name = c.args.name.now; kind = c.kind.result } in
    let change = set_where v c.args.selected.now in
    subst (λ (k : Kind). Prepares c.args.vault.now c.ensure_head.new.vault c.args.key (Ok (with_column (with_head g c.args.class (record { name = c.args.name.now; kind = k })) c.args.class c.args.name.now change)) c.from_residual.result) c.kind.ensures
    (ended_as c.from_residual.result c.in_err-head.field-0.0 (Prepares c.args.vault.now c.ensure_head.new.vault c.args.key (Ok (with_column (with_head g c.args.class h) c.args.class c.args.name.now change))) c.from_residual.ensures.1
    (head_stopped c.args.vault.now c.ensure_head.new.vault c.args.key c.args.class h (with_head g c.args.class h) change c.in_err-head.field-0.0 (c.in_err-head.ensures g there)))

pub fill-requires-clause-each : goal.fill-requires-clause-each
fill-requires-clause-each c = λ g there.
    let h : Head = record { name = c.args.name.now; kind = c.kind.result } in
    let (opening, opens) = there_is (at c.args.vault.now.geos c.args.key) c.requires.live in
    let (ch, is) = c.in_ok-head.ensures opening opens in
    c.requires.each opening opens ∙ sym (with_head_count opening c.args.class h)
    ∙ ap (λ (x : Geo). count_of x c.args.class) (same_there (at c.ensure_head.new.vault.geos c.args.key) (with_head opening c.args.class h) g ch.geos.here there)

pub fill-requires-clause-kinds : goal.fill-requires-clause-kinds
fill-requires-clause-kinds c = λ g there i.
    let h : Head = record { name = c.args.name.now; kind = c.kind.result } in
    let (opening, opens) = there_is (at c.args.vault.now.geos c.args.key) c.requires.live in
    let (ch, is) = c.in_ok-head.ensures opening opens in
    subst (λ (x : Geo). kind_at x c.args.class c.in_ok-head.head ≡ Some (kind_of c.args.value.now)) (same_there (at c.ensure_head.new.vault.geos c.args.key) (with_head opening c.args.class h) g ch.geos.here there) (is.kind ∙ ap Some c.kind.ensures)

pub returns : goal.returns
returns c = λ g there.
    let v = c.args.value.now in
    let h : Head = record { name = c.args.name.now; kind = c.kind.result } in
    let after = with_head g c.args.class h in
    let (ch, is) = c.in_ok-head.ensures g there in
    let made = filled (λ k. v) c.args.class c.in_ok-head.head c.args.selected.now after in
    subst (λ (k : Kind). Prepares c.args.vault.now c.fill.new.vault c.args.key (Ok (with_column (with_head g c.args.class (record { name = c.args.name.now; kind = k })) c.args.class c.args.name.now (set_where v c.args.selected.now))) c.fill.result) c.kind.ensures
    (subst (λ (x : Geo). Prepares c.args.vault.now c.fill.new.vault c.args.key (Ok x) c.fill.result)
    (set_is v after c.args.class c.args.name.now c.in_ok-head.head c.args.selected.now is.named)
    (prepares_of c.args.vault.now c.fill.new.vault c.args.key (Ok made) c.fill.result
    (makes_then c.args.vault.now c.ensure_head.new.vault c.fill.new.vault c.args.key (Ok after) (λ (x : Geo). Ok (filled (λ k. v) c.args.class c.in_ok-head.head c.args.selected.now x)) after c.fill.result refl ch (c.fill.ensures after ch.geos.here))))

use Rattle.std.proofs.Common.{◌≡◌, ap, sym, ◌∙◌, subst, Some, None, Ok, ℕ, true, false, refl}
use Rattle.std.specs.Prelude.{IsSomeAnd, if◌then◌else◌}
use Rattle.sop_model.specs.declared.geo.Head.{Head}
use Rattle.sop_model.specs.declared.geo.Geo.{Geo}
use Rattle.sop_model.specs.Rows.{head_named, kind_at, attr_added, attr_deleted}
use Rattle.sop_columns.proofs.NameLemmas.{grows_none}
use Rattle.sop_vault.specs.Keyed.{at}
use Rattle.sop_vault.specs.Vaults.{Changed}
use Rattle.sop_basic.specs.Heads.{is_kind, with_head_at}
use Rattle.sop_basic.specs.Fillings.{Finds}
use Rattle.sop_basic.proofs.MakingLemmas.{same_there, if_there}
use Rattle.sop_basic.proofs.HeadLemmas.{kinds_same, deleted_free, finds_then}
use Rattle.sop_basic.proofs.heads.keep_head.Goals as goal

pub returns-then-is_kind : goal.returns-then-is_kind
returns-then-is_kind c = λ g there.
    let h : Head = record { name = c.args.name.now; kind = c.args.kind } in
    let v = c.args.vault.now in
    let same = same_there (at v.geos c.args.key) c.view.result g c.view.ensures.geo there in
    let kind : kind_at g c.args.class c.args.head ≡ Some c.head_kind.result = subst (λ (x : Geo). kind_at x c.args.class c.args.head ≡ Some c.head_kind.result) same c.head_kind.ensures in
    let is : is_kind c.args.kind (Some c.head_kind.result) ≡ true = sym c.is_kind.ensures ∙ c.if-is_kind.true in
    let stays : with_head_at g c.args.class h (Some c.args.head) ≡ g = ap (λ o. if is_kind c.args.kind o then g else attr_added (attr_deleted g c.args.class c.args.head) c.args.class h) kind ∙ ap (λ b. if b then g else attr_added (attr_deleted g c.args.class c.args.head) c.args.class h) is in
    let found : Finds v v c.args.key c.args.class h g (Ok c.args.head) = (record { geos = record { here = there; others = λ other apart. refl }; held = λ other apart. refl; names = grows_none v.names }, record { named = c.requires.there g there; kind = kind ∙ ap Some (kinds_same c.args.kind c.head_kind.result is) }) in
    subst (λ (x : Geo). Finds v v c.args.key c.args.class h x (Ok c.args.head)) (sym stays) found

pub add_head-requires-clause-free : goal.add_head-requires-clause-free
add_head-requires-clause-free c = λ h there.
    let g = c.view.result in
    let deleted = λ (n : ℕ). Changed c.args.vault.now c.del_attr.new.self c.args.key (Some (attr_deleted g c.args.class n)) in
    let named = c.requires.there g c.view.ensures.geo in
    let ch : deleted c.args.head = subst (λ o. IsSomeAnd o deleted) named
    (if_there (at c.args.vault.now.geos c.args.key) (λ (g : Geo). IsSomeAnd (head_named g c.args.class c.args.name.now) (λ n. Changed c.args.vault.now c.del_attr.new.self c.args.key (Some (attr_deleted g c.args.class n)))) g c.view.ensures.geo c.in_default.ensures.ok) in
    subst (λ (x : Geo). head_named x c.args.class c.args.name.now ≡ None) (same_there (at c.del_attr.new.self.geos c.args.key) (attr_deleted g c.args.class c.args.head) h ch.geos.here there)
    (deleted_free c.args.name.now g c.args.class c.args.head (c.view.ensures.readable.sound.named c.args.class).distinct_heads named)

pub returns : goal.returns
returns c = λ g there.
    let h : Head = record { name = c.args.name.now; kind = c.args.kind } in
    let old = c.args.vault.now in
    let mid = c.del_attr.new.self in
    let gone = attr_deleted g c.args.class c.args.head in
    let named = c.requires.there g there in
    let ch : Changed old mid c.args.key (Some gone) = subst (λ o. IsSomeAnd o (λ n. Changed old mid c.args.key (Some (attr_deleted g c.args.class n)))) named
    (if_there (at old.geos c.args.key) (λ (g : Geo). IsSomeAnd (head_named g c.args.class c.args.name.now) (λ n. Changed old mid c.args.key (Some (attr_deleted g c.args.class n)))) g there c.in_default.ensures.ok) in
    let same = same_there (at old.geos c.args.key) c.view.result g c.view.ensures.geo there in
    let kind : kind_at g c.args.class c.args.head ≡ Some c.head_kind.result = subst (λ (x : Geo). kind_at x c.args.class c.args.head ≡ Some c.head_kind.result) same c.head_kind.ensures in
    let is : is_kind c.args.kind (Some c.head_kind.result) ≡ false = sym c.is_kind.ensures ∙ c.if-is_kind.false in
    let made : with_head_at g c.args.class h (Some c.args.head) ≡ attr_added gone c.args.class h = ap (λ o. if is_kind c.args.kind o then g else attr_added gone c.args.class h) kind ∙ ap (λ b. if b then g else attr_added gone c.args.class h) is in
    subst (λ (x : Geo). Finds old c.add_head.new.vault c.args.key c.args.class h x c.add_head.result) (sym made)
    (finds_then old mid c.add_head.new.vault c.args.key c.args.class h gone (attr_added gone c.args.class h) c.add_head.result ch (c.add_head.ensures gone ch.geos.here))

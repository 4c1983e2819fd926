use Rattle.std.proofs.Common.{◌≡◌, ◌<◌, ◌∙◌, length, sym, arith}
use Rattle.std.specs.Prelude.{None}
use Rattle.sop_model.specs.declared.geo.Geo.{Geo}
use Rattle.sop_model.specs.Limits.{most_heads}
use Rattle.sop_model.specs.Geometry.{heads_of}
use Rattle.sop_model.specs.Rows.{head_named}
use Rattle.sop_vault.proofs.HeadLemmas.{told, named_here, heads_here, none_by}
use Rattle.sop_vault.proofs.vault.Vault.attr_number.Goals as goal

pub returns-clause-ok : goal.returns-clause-ok
returns-clause-ok c =
    let none = none_by c.find.result (sym c.is_some.ensures ∙ c.if-is_some.false) in
    told c.self.inside.shelf c.self.inside.names c.self.inside.sheets.slots c.self.invariant c.number.result c.in-Some.sheet.now (sym c.in-Some.ensures) c.args.self.now c.self.view_is c.args.key c.number.ensures
    (λ (g : Geo). (head_named g c.args.class c.args.name.now ≡ None) × (c.heads-number.result ≡ length (heads_of g c.args.class).heads) × (c.heads-number.result < most_heads))
    (sym (named_here c.self.inside.shelf c.self.inside.names c.self.inside.sheets.slots c.self.invariant c.number.result c.in-Some.sheet.now (sym c.in-Some.ensures) c.args.class c.args.name.now) ∙ sym c.find.ensures ∙ none, c.heads-number.ensures ∙ heads_here c.self.inside.shelf c.self.inside.names c.self.inside.sheets.slots c.self.invariant c.number.result c.in-Some.sheet.now (sym c.in-Some.ensures) c.args.class, (let f = c.if-number-ge-MOST_HEADS.false in omega arith))

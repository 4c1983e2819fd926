use Rattle.std.proofs.Common.{◌<◌, ◌^◌, ◌∙◌, length, ap, sym, subst, arith}
use Rattle.std.specs.Prelude.{◌↔◌, Option, Some, IsSome, IsTrue, IfSome, option_map, slice_set}
use Rattle.std.proofs.lemmas.Bool.{false≢true}
use Rattle.sop_model.specs.declared.geo.Geo.{Geo}
use Rattle.sop_model.specs.Geometry.{IsWithin}
use Rattle.sop_model.specs.Appending.{appended}
use Rattle.sop_tables.specs.Tables.{IsHeld}
use Rattle.sop_sheets.specs.Sheets.{SheetLists, places_of, geo_of, IsSheet}
use Rattle.sop_vault.specs.Keyed.{at}
use Rattle.sop_vault.specs.Counted.{all_seen}
use Rattle.sop_vault.proofs.StepLemmas.{seen_at}
use Rattle.sop_vault.specs.Vaults.{VaultMap, Changed, vault_of}
use Rattle.sop_vault.proofs.HeadLemmas.{told, asked}
use Rattle.sop_vault.proofs.VaultLemmas.{here_held, room_for_here, call_counted, stays_counted, changed_clause, kept_clause, unchanged, err_by}
use Rattle.sop_vault.proofs.vault.Vault.append.Goals as goal

pub returns-then-not-has_room_for-clause-err : goal.returns-then-not-has_room_for-clause-err
returns-then-not-has_room_for-clause-err c = unchanged c.args.self.now

pub returns-in_err-more-clause-err : goal.returns-in_err-more-clause-err
returns-in_err-more-clause-err c = err_by c.from_residual.result (unchanged c.args.self.now)

pub unreachable-requires-in_default-get_mut : goal.unreachable-requires-in_default-get_mut
unreachable-requires-in_default-get_mut c =
    let s = c.self.inside.shelf in let n = c.self.inside.names in let slots = c.self.inside.sheets.slots in
    let free = ap (λ (v : VaultMap). at v.geos c.args.into) (sym c.self.view_is) ∙ ap (at (all_seen geo_of s n slots)) (sym c.number-2.ensures)
    ∙ seen_at places_of IsSheet geo_of s n slots c.number-2.result ∙ ap (option_map (geo_of s n)) (sym c.in_default-get_mut.ensures.value) in
    false≢true (subst (λ (o : Option Geo). IsSome o) free c.requires.into)

pub append-appended-requires-clause-held : goal.append-appended-requires-clause-held
append-appended-requires-clause-held c = here_held c.self.inside.shelf c.self.inside.names c.self.inside.sheets.slots c.self.invariant c.number-2.result c.in-Some-get_mut.sheet.now (sym c.in-Some-get_mut.ensures.value)

pub append-appended-requires-clause-other_held : goal.append-appended-requires-clause-other_held
append-appended-requires-clause-other_held c =
    subst (λ (sheet : SheetLists). IsHeld c.self.inside.shelf (places_of sheet)) (sym c.in_ok-more.ensures)
    (here_held c.self.inside.shelf c.self.inside.names c.self.inside.sheets.slots c.self.invariant c.number.result c.in-Some.more.now (sym c.in-Some.ensures))

pub append-appended-requires-clause-room : goal.append-appended-requires-clause-room
append-appended-requires-clause-room c =
    let few : length c.self.inside.sheets.slots < 2 ^ 64 = let a = c.capacity-capacity.ensures.slots in let b = c.capacity-capacity.type_inv in omega arith in
    room_for_here c.self.inside.shelf c.self.inside.names c.self.inside.sheets.slots c.self.invariant c.number-2.result c.in-Some-get_mut.sheet.now (sym c.in-Some-get_mut.ensures.value) few

pub append-appended-requires-clause-within : goal.append-appended-requires-clause-within
append-appended-requires-clause-within c =
    let s = c.self.inside.shelf in let n = c.self.inside.names in let slots = c.self.inside.sheets.slots in let v = c.args.self.now in
    let b = geo_of s n c.in-Some.more.now in let a = geo_of s n c.in-Some-get_mut.sheet.now in
    let both = asked s n slots c.self.invariant c.number.result c.in-Some.more.now (sym c.in-Some.ensures) v c.self.view_is c.args.from c.number.ensures
    (λ (h : Geo). IfSome (at v.geos c.args.into) (λ g. IsTrue c.has_room_for.result ↔ IsWithin (appended g h))) c.has_room_for.ensures in
    let one = asked s n slots c.self.invariant c.number-2.result c.in-Some-get_mut.sheet.now (sym c.in-Some-get_mut.ensures.value) v c.self.view_is c.args.into c.number-2.ensures
    (λ (g : Geo). IsTrue c.has_room_for.result ↔ IsWithin (appended g b)) both in
    subst (λ (sheet : SheetLists). IsWithin (appended a (geo_of s n sheet))) (sym c.in_ok-more.ensures) (one.0 c.if-not-has_room_for.false)

pub invariant_of-self : goal.invariant_of-self
invariant_of-self c = stays_counted c.self.inside.shelf c.self.inside.names c.self.inside.sheets.slots c.self.invariant c.number-2.result c.in-Some-get_mut.sheet.now (sym c.in-Some-get_mut.ensures.value) c.append-appended.new.shelf c.append-appended.new.names c.append-appended.new.self c.each_is_counted.ensures c.in_err-appended.ensures.err

pub returns-in_err-appended-clause-err : goal.returns-in_err-appended-clause-err
returns-in_err-appended-clause-err c =
    err_by c.from_residual-in_err-appended.result (kept_clause c.self.inside.shelf c.self.inside.names c.self.inside.sheets.slots c.self.invariant c.number-2.result c.in-Some-get_mut.sheet.now (sym c.in-Some-get_mut.ensures.value) c.append-appended.new.shelf c.append-appended.new.names c.append-appended.new.self c.each_is_counted.ensures c.in_err-appended.ensures.err c.args.self.now c.self.view_is)

pub invariant_of-self-2 : goal.invariant_of-self-2
invariant_of-self-2 c = call_counted c.self.inside.shelf c.self.inside.names c.self.inside.sheets.slots c.self.invariant c.number-2.result c.in-Some-get_mut.sheet.now (sym c.in-Some-get_mut.ensures.value) c.append-appended.new.shelf c.append-appended.new.names c.append-appended.new.self c.each_is_counted.ensures c.in_ok-appended.ensures.ok.step

pub returns-clause-ok : goal.returns-clause-ok
returns-clause-ok c =
    let s = c.self.inside.shelf in let n = c.self.inside.names in let slots = c.self.inside.sheets.slots in let v = c.args.self.now in
    let t = c.append-appended.new.shelf in let m = c.append-appended.new.names in
    let made = changed_clause s n slots c.self.invariant c.number-2.result c.in-Some-get_mut.sheet.now (sym c.in-Some-get_mut.ensures.value) t m c.append-appended.new.self c.each_is_counted.ensures
    (λ (g : Geo). appended g (geo_of s n c.in_ok-more.more)) c.in_ok-appended.ensures.ok v c.self.view_is c.args.into c.number-2.ensures in
    let after = vault_of t m (slice_set slots c.number-2.result (Some c.append-appended.new.self)) in
    told s n slots c.self.invariant c.number.result c.in-Some.more.now (sym c.in-Some.ensures) v c.self.view_is c.args.from c.number.ensures
    (λ (h : Geo). IfSome (at v.geos c.args.into) (λ g. Changed v after c.args.into (Some (appended g h))))
    (subst (λ (sheet : SheetLists). IfSome (at v.geos c.args.into) (λ g. Changed v after c.args.into (Some (appended g (geo_of s n sheet))))) c.in_ok-more.ensures made)

use Rattle.std.proofs.Common.{rules, tests, ap, sym, ◌∙◌}
use Rattle.std.specs.Prelude.{position}
use Rattle.std.specs.Str.{bytes_eq}
use Rattle.std.proofs.lemmas.Iterator.{YieldsList-from_slice}
use Rattle.std.proofs.lemmas.Iterator.Search.{position_from_yields_List}
use Rattle.sop_tables.proofs.table.Table.find_group.Goals as goal

pub returns-in-Some : goal.returns-in-Some
returns-in-Some c =
    sym c.in-Some.is ∙ position_from_yields_List (λ h. bytes_eq h c.args.name.now) _ _ _ c.position.ensures.ran (YieldsList-from_slice c.groups.result.now cc) (λ x b q k. search (rules, tests)) ∙ ap (λ xs. position (λ h. bytes_eq h c.args.name.now) xs) c.groups.ensures

pub returns-in-None : goal.returns-in-None
returns-in-None c =
    sym c.in-None.is ∙ position_from_yields_List (λ h. bytes_eq h c.args.name.now) _ _ _ c.position.ensures.ran (YieldsList-from_slice c.groups.result.now cc) (λ x b q k. search (rules, tests)) ∙ ap (λ xs. position (λ h. bytes_eq h c.args.name.now) xs) c.groups.ensures

use Rattle.std.proofs.Common.{rules, tests}
use Rattle.std.specs.Str.{bytes_eq}
use Rattle.std.proofs.lemmas.Iterator.{YieldsList-from_slice}
use Rattle.std.proofs.lemmas.Iterator.Search.{any_from_yields_List}
use Rattle.sop_tables.proofs.sets.has_group.Goals as goal

pub returns : goal.returns
returns c = any_from_yields_List (λ h. bytes_eq h c.args.name.now) _ _ _ c.any.ensures.ran (YieldsList-from_slice c.args.groups.now cc) (λ x b q k. search (rules, tests))

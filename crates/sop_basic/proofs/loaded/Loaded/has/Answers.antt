use Rattle.std.proofs.Common.{sym, ◌∙◌, ap}
use Rattle.std.specs.Prelude.{is_some}
use Rattle.std.specs.FinMap.{get}
use Rattle.sop_outside.proofs.TextMaps.{get-by_bytes}
use Rattle.sop_basic.proofs.loaded.Loaded.has.Goals as goal

pub returns : goal.returns
returns c = c.contains_key.ensures ∙ ap is_some (sym (get-by_bytes c.self.inside.files.entries c.args.name.now) ∙ ap (λ files. get files c.args.name.now) c.self.view_is)

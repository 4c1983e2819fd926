use Rattle.std.proofs.Common.{sym, ◌∙◌, ap}
use Rattle.std.specs.FinMap.{get}
use Rattle.sop_outside.proofs.TextMaps.{get-by_bytes}
use Rattle.sop_basic.proofs.loaded.Loaded.get.Goals as goal

pub returns : goal.returns
returns c = c.get.ensures.value ∙ sym (get-by_bytes c.self.inside.files.entries c.args.name.now) ∙ ap (λ files. get files c.args.name.now) c.self.view_is

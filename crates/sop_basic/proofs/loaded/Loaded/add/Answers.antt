use Rattle.std.proofs.Common.{refl}
use Rattle.sop_outside.proofs.TextMaps.{by_bytes-updates}
use Rattle.sop_basic.proofs.loaded.Loaded.add.Goals as goal

pub returns-in-Ok-clause-ok : goal.returns-in-Ok-clause-ok
returns-in-Ok-clause-ok c =
    let inserted = by_bytes-updates c.self.inside.files c.insert.new.self c.in_ok-name.name c.args.file c.in-Ok.ensures.updates in
    rw (← c.self.view_is, inserted, c.in_ok-name.ensures.ok) refl

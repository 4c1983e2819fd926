use Rattle.sop_vault.proofs.TakenLemmas.{taken_there, taken_within}
use Rattle.sop_vault.proofs.tests.wants.take_and_adopt.Goals as goal

pub adopt-requires-clause-there : goal.adopt-requires-clause-there
adopt-requires-clause-there g c =
    let e = c.in-Ok.ensures in
    taken_there c.args.vault.now c.take_loose.new.self c.args.key c.in-Ok.pages c.view.result c.view.ensures.geo c.view.ensures.readable e.values e.numbered e.ok

pub adopt-requires-clause-within : goal.adopt-requires-clause-within
adopt-requires-clause-within g c =
    let e = c.in-Ok.ensures in
    taken_within c.args.vault.now c.take_loose.new.self c.args.key c.in-Ok.pages c.view.result c.view.ensures.geo c.view.ensures.readable e.values e.numbered e.ok

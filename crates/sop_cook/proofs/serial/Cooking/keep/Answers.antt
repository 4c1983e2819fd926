use Rattle.sop_cook.proofs.HandLemmas.{keep_on, gone_on}
use Rattle.sop_cook.proofs.serial.Cooking.keep.Goals as goal

pub returns-in-Ok-clause-on : goal.returns-in-Ok-clause-on
returns-in-Ok-clause-on c =
    let e = c.keep.ensures in
    keep_on c.args.vault.now c.keep.new.vault c.args.self.now c.keep.new.self c.args.node c.place-place.result c.args.key c.requires.running c.requires.gives c.requires.owns c.place-place.ensures e.uses e.keys e.stays e.passes e.owns

pub returns-in-Err-clause-on : goal.returns-in-Err-clause-on
returns-in-Err-clause-on c =
    let e = c.keep.ensures in
    gone_on c.args.vault.now c.keep.new.vault c.args.self.now c.keep.new.self c.args.node c.place-place.result c.args.key c.requires.running c.requires.gives c.requires.owns c.place-place.ensures e.uses e.keys e.stays e.passes e.owns c.drop_geo.new.self c.drop_geo.ensures.gone

use Rattle.std.proofs.Common.{◌==◌, sym}
use Rattle.geo_text.proofs.Splitting.{split_some, split_none}
use Rattle.geo_text.proofs.reference.split_part.Goals as goal

pub returns-in-Some : goal.returns-in-Some
returns-in-Some c = split_some (λ b. b == 47) c.args.text.now c.in-Some.i (sym c.in-Some.ensures)

pub returns-in-None : goal.returns-in-None
returns-in-None c = split_none (λ b. b == 47) c.args.text.now (sym c.in-None.ensures)

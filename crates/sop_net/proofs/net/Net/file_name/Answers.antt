use Rattle.sop_net.proofs.NeedsLemmas.{file_stands}
use Rattle.sop_net.proofs.net.Net.file_name.Goals as goal

pub at-requires : goal.at-requires
at-requires c = file_stands c.args.self.now.nodes c.args.node c.requires

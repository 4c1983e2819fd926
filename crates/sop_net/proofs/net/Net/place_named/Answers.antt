use Rattle.std.proofs.Common.{◌∙◌, ap}
use Rattle.std.specs.Prelude.{string_bytes}
use Rattle.sop_net.specs.Network.{place_named}
use Rattle.sop_net.proofs.NameLemmas.{place-of-key}
use Rattle.sop_net.proofs.net.Net.place_named.Goals as goal

pub returns-clause-place : goal.returns-clause-place
returns-clause-place c =
    c.get_index_of.ensures.index
    ∙ place-of-key c.self.inside.names.keys string_bytes c.self.inside.nodes.items c.args.name.now c.self.invariant.0.same_names
    ∙ ap (λ net. place_named net.nodes c.args.name.now) c.self.view_is

use Rattle.std.proofs.Common.{[], arith}
use Rattle.sop_net.specs.Listing.{with_needs}
use Rattle.sop_net.proofs.ListingLemmas.{IsListing-start, few_listed}
use Rattle.sop_net.proofs.NeedsLemmas.{needed_are_files}
use Rattle.sop_net.proofs.needs.needs_of.Goals as goal

pub visit-requires-clause-listing : goal.visit-requires-clause-listing
visit-requires-clause-listing c = IsListing-start c.args.net.now.nodes 1024

pub returns-clause-few : goal.returns-clause-few
returns-clause-few c =
    let few = few_listed c.args.net.now.nodes c.visit.new.marks (with_needs c.args.net.now.nodes [] c.args.node) c.visit.ensures.listing in
    omega (arith, few, c.visit.ensures.written.count, c.is_network.ensures.network.few)

pub returns-clause-files : goal.returns-clause-files
returns-clause-files c = needed_are_files c.args.net.now.nodes c.args.node

use Rattle.std.proofs.Common.{take}
use Rattle.sop_net.specs.Listing.{IsListing, IsWritten}
use Rattle.sop_net.proofs.ListingLemmas.{after_wires}
use Rattle.sop_net.proofs.needs.+visit.Given as goal

abbrev pub decreases-visit : goal.decreases-visit
decreases-visit l = l.left

abbrev pub invariant-loop-wire : goal.invariant-loop-wire
invariant-loop-wire l = record {
  written : IsWritten l.fn.into l.into l.count (after_wires l.net.nodes (take l.fn.count l.fn.into) l.node l.wire-index);
  listing : IsListing l.net.nodes l.marks (after_wires l.net.nodes (take l.fn.count l.fn.into) l.node l.wire-index);
}

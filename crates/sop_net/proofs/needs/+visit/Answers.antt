use Rattle.std.proofs.Common.{◌∙◌, ap, sym, subst, arith, length, take, ◌≤◌, ◌+◌}
use Rattle.sop_net.specs.Needs.{with_file}
use Rattle.sop_net.specs.Listing.{IsListing, IsWritten}
use Rattle.sop_net.proofs.UsedLemmas.{source_used, source_within, wire_read}
use Rattle.sop_net.proofs.ListingLemmas.{after_wires, after_wires-past, count-within, IsWritten-start, listed-taken, listing_all, listing_more, marked_read, nothing_new, room, same_written, written_all, written_more}
use Rattle.sop_net.proofs.needs.+visit.Goals as goal
use Rattle.sop_net.proofs.needs.+visit.Goals.{in-Some, in_default}

pub returns-then-marks-place-clause-written : goal.returns-then-marks-place-clause-written
returns-then-marks-place-clause-written t c =
    let nodes = c.args.net.now.nodes in
    let start = take c.args.count c.args.into.now in
    let same = nothing_new nodes c.args.marks.now start c.args.node c.place-place.result c.requires.listing c.place-place.ensures (marked_read c.args.marks.now c.place-place.result c.if-marks-place.true) in
    subst (IsWritten c.args.into.now c.args.into.now c.args.count) (sym same) (IsWritten-start c.args.into.now c.args.count c.requires.count)

pub returns-then-marks-place-clause-listing : goal.returns-then-marks-place-clause-listing
returns-then-marks-place-clause-listing t c =
    let nodes = c.args.net.now.nodes in
    let start = take c.args.count c.args.into.now in
    let same = nothing_new nodes c.args.marks.now start c.args.node c.place-place.result c.requires.listing c.place-place.ensures (marked_read c.args.marks.now c.place-place.result c.if-marks-place.true) in
    subst (IsListing nodes c.args.marks.now) (sym same) c.requires.listing

pub visit-count-requires : goal.visit-count-requires
visit-count-requires t c =
    let nodes = c.args.net.now.nodes in
    let list = after_wires nodes (take c.args.count c.args.into.now) c.args.node c.loop-wire.wire-index in
    let wire = wire_read _ _ c.loop-wire.wire-index c.wire-item.result c.used_wires-wire-items.ensures c.loop-wire-test.true c.wire-item.is ∙ c.in-Some.is in
    let step = source_within nodes c.args.left c.args.node c.loop-wire.wire-index c.in-Some.source c.requires.within wire in
    let h = c.loop-wire.invariant in (
      omega (arith, step.0, c.decreases),
      (
        c.is_network.ensures.used_live c.args.node c.in-Some.source (source_used nodes c.args.node c.loop-wire.wire-index c.in-Some.source wire),
        (
          step.1,
          (
            omega arith,
            (
              omega arith,
              (
                count-within c.args.into.now c.loop-wire.into c.loop-wire.count list h.written,
                subst (IsListing nodes c.loop-wire.marks) (sym (listed-taken c.args.into.now c.loop-wire.into c.loop-wire.count list h.written)) h.listing,
              ),
            ),
          ),
        ),
      ),
    )

pub loop-wire-preserved : goal.loop-wire-preserved
loop-wire-preserved t c =
    let nodes = c.args.net.now.nodes in
    let start = take c.args.count c.args.into.now in
    let h = c.loop-wire.invariant in
    let read = wire_read _ _ c.loop-wire.wire-index c.wire-item.result c.used_wires-wire-items.ensures c.loop-wire-test.true c.wire-item.is in
    elim c.match-wire.branch [
      | in-Some w ↦ (
          let wire = read ∙ w.in-Some.is in
          record {
            written = same_written c.args.into.now w.visit-count.new.into c.match-wire.into w.visit-count.result c.match-wire.count (after_wires nodes start c.args.node (c.loop-wire.wire-index + 1)) w.into-is w.count-is
                (written_more nodes c.args.into.now c.loop-wire.into w.visit-count.new.into c.args.count c.args.node c.loop-wire.wire-index w.in-Some.source c.loop-wire.count w.visit-count.result wire h.written w.visit-count.ensures.written);
            listing = subst (λ marks. IsListing nodes marks (after_wires nodes start c.args.node (c.loop-wire.wire-index + 1))) (sym w.marks-is)
                (listing_more nodes w.visit-count.new.marks c.args.into.now c.loop-wire.into c.args.count c.args.node c.loop-wire.wire-index w.in-Some.source c.loop-wire.count wire h.written w.visit-count.ensures.listing);
          }
          )
      | in_default w ↦ (
          let same = after_wires-past nodes start c.args.node c.loop-wire.wire-index (read ∙ w.in_default.is) in
          record {
            written = subst (IsWritten c.args.into.now c.match-wire.into c.match-wire.count) (sym same)
                (same_written c.args.into.now c.loop-wire.into c.match-wire.into c.loop-wire.count c.match-wire.count (after_wires nodes start c.args.node c.loop-wire.wire-index) w.into-is w.count-is h.written);
            listing = subst (IsListing nodes c.match-wire.marks) (sym same)
                (subst (λ marks. IsListing nodes marks (after_wires nodes start c.args.node c.loop-wire.wire-index)) (sym w.marks-is) h.listing);
          }
          )
    ]

pub list-count-requires-clause-room : goal.list-count-requires-clause-room
list-count-requires-clause-room t c =
    let nodes = c.args.net.now.nodes in
    let list = after_wires nodes (take c.args.count c.args.into.now) c.args.node c.loop-wire.wire-index in
    let h = c.loop-wire.invariant in
    let few = room nodes list c.args.node h.listing.live h.listing.distinct c.requires.live in
    subst (λ l. length (with_file nodes l c.args.node) ≤ length c.loop-wire.into) (sym (listed-taken c.args.into.now c.loop-wire.into c.loop-wire.count list h.written)) (omega (arith, few))

pub returns-clause-written : goal.returns-clause-written
returns-clause-written t c =
    let nodes = c.args.net.now.nodes in
    let all = c.used_wires-wire-items.ensures in
    written_all nodes c.args.into.now c.loop-wire.into c.list-count.new.into c.args.count c.args.node c.loop-wire.wire-index c.loop-wire.count c.list-count.result
    (c.is_network.ensures.within_used c.args.node c.requires.live) (omega (arith, ap length all)) c.loop-wire.invariant.written c.list-count.ensures

pub returns-clause-listing : goal.returns-clause-listing
returns-clause-listing t c =
    let nodes = c.args.net.now.nodes in
    let all = c.used_wires-wire-items.ensures in
    listing_all nodes c.loop-wire.marks (take c.args.count c.args.into.now) c.args.node c.loop-wire.wire-index c.place-place.result
    (c.is_network.ensures.within_used c.args.node c.requires.live) (omega (arith, ap length all)) c.requires.live c.place-place.ensures c.loop-wire.invariant.listing

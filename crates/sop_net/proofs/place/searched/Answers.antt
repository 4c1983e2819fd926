use Rattle.std.proofs.Common.{rules}
use Rattle.std.proofs.lemmas.List.Sorted.{answers_always}
use Rattle.sop_net.proofs.PlaceLemmas.{search-finds, search-place}
use Rattle.sop_net.proofs.place.searched.Goals as goal

pub unreachable-requires : goal.unreachable-requires
unreachable-requires c =
    search-finds c.args.nodes.now c.args.node c.in-Err.field-0 c.requires.rising c.requires.live
    (rw (← c.number.ensures) (c.in-Err.ensures.position (λ n. n.number) (answers_always _ _ _ (λ f a r g called. search rules))))

pub returns-clause-place : goal.returns-clause-place
returns-clause-place c =
    search-place c.args.nodes.now c.args.node c.in-Ok.at c.requires.rising c.in-Ok.ensures.bound
    (rw (← c.number.ensures) (c.in-Ok.ensures.position (λ n. n.number) (answers_always _ _ _ (λ f a r g called. search rules))))

use Rattle.std.proofs.Common.{◌≡◌, ◌<◌, ◌∙◌, sym, ap, length, get_or, rules}
use Rattle.std.proofs.lemmas.Bool.{eqb-true}
use Rattle.sop_net.proofs.PlaceLemmas.{place-at}
use Rattle.sop_net.proofs.place.place.Goals as goal

pub returns-in-Some-clause-place : goal.returns-in-Some-clause-place
returns-in-Some-clause-place c =
    let within : c.number-first.result < length c.args.nodes.now = search rules in
    let read : c.in-Some.there.now ≡ get_or c.args.nodes.now c.number-first.result c.in-Some.there.now = search rules in
    place-at c.args.nodes.now c.number-first.result c.args.node c.in-Some.there.now c.requires.rising within
    (ap (λ n. n.number) (sym read) ∙ eqb-true c.in-Some.there.now.number c.args.node (sym c.eq.ensures ∙ c.if-eq.true))

use Rattle.sop_cook.specs.Parts.{AreNone}
use Rattle.sop_cook.proofs.kept.no_keys.Given as goal

abbrev pub invariant-loop : goal.invariant-loop
invariant-loop l = AreNone l.counter l.places.items

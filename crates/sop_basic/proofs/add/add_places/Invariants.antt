use Rattle.std.proofs.Common.{◌≡◌, Some, length}
use Rattle.sop_model.specs.declared.geo.Geo.{Geo}
use Rattle.sop_vault.specs.Keyed.{at}
use Rattle.sop_basic.specs.ParmTexts.{vectors_in}
use Rattle.sop_basic.proofs.AddLemmas.{IsAdding}
use Rattle.sop_basic.proofs.add.add_places.Given as goal

abbrev pub invariant-loop-place : goal.invariant-loop-place
invariant-loop-place l = (geo : Geo) → at l.initial.vault.geos l.key ≡ Some geo → IsAdding geo (vectors_in l.text) l.initial.vault l.vault l.key (vectors_in l.rest)

abbrev pub decreases-loop-place : goal.decreases-loop-place
decreases-loop-place l = length l.rest

use Rattle.std.proofs.Common.{◌≡◌, Some}
use Rattle.sop_outside.specs.Blanks.{words_of}
use Rattle.sop_model.specs.declared.geo.Geo.{Geo}
use Rattle.sop_vault.specs.Keyed.{at}
use Rattle.sop_vault.specs.Vaults.{Changed}
use Rattle.sop_basic.proofs.DeleteLemmas.{swept}
use Rattle.sop_basic.proofs.attrib_delete.delete_matching.Given as goal

abbrev pub invariant-loop-head : goal.invariant-loop-head
invariant-loop-head l = (geo : Geo) → at l.initial.vault.geos l.key ≡ Some geo → Changed l.initial.vault l.vault l.key (Some (swept geo l.class (words_of l.names) l.head))

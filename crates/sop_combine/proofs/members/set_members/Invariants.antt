use Rattle.std.proofs.Common.{◌≡◌, Some}
use Rattle.sop_model.specs.declared.geo.Geo.{Geo}
use Rattle.sop_vault.specs.Keyed.{at}
use Rattle.sop_combine.specs.Marked.{combining}
use Rattle.sop_combine.proofs.RowLemmas.{IsChanging}
use Rattle.sop_combine.proofs.members.set_members.Given as goal

abbrev pub invariant-loop-element : goal.invariant-loop-element
invariant-loop-element l = (geo : Geo) → at l.initial.vault.geos l.key ≡ Some geo → IsChanging (combining l.combination l.group l.flags) l.class geo l.initial.vault l.vault l.key l.element

use Rattle.std.proofs.Common.{◌≡◌, Some}
use Rattle.sop_model.specs.declared.geo.Geo.{Geo}
use Rattle.sop_vault.specs.Keyed.{at}
use Rattle.sop_basic.specs.Fillings.{filled_with}
use Rattle.sop_basic.proofs.FillLemmas.{IsFilling}
use Rattle.sop_basic.proofs.filling.fill.Given as goal

abbrev pub invariant-loop-element : goal.invariant-loop-element
invariant-loop-element l = (geo : Geo) → at l.initial.vault.geos l.key ≡ Some geo → IsFilling (filled_with l.filling) l.class l.head l.selected geo l.initial.vault l.vault l.key l.element l.before

-- What a `blast` node is told, by its parameters.
use Rattle.std.proofs.Common.{◌≡◌, Bool, List, ℕ, sym, ap, ◌∙◌, subst}
use Rattle.std.specs.Prelude.{Ok, Err}
use Rattle.sop_model.specs.declared.class.Class.{Class}
use Rattle.sop_model.specs.declared.geo.Geo.{Geo}
use Rattle.sop_model.specs.declared.fault.CookStop.{CookStop}
use Rattle.sop_model.specs.Sweep.{swept}
use Rattle.sop_net.specs.Network.{parm_at}
use Rattle.sop_vault.specs.Vaults.{VaultMap}
use Rattle.sop_basic.specs.ParmTexts.{class_in}
use Rattle.sop_basic.specs.Outcomes.{Outcome, then_with, limited}
use Rattle.sop_basic.specs.Selecting.{by_pattern, StopsWith}
use Rattle.sop_basic.specs.Making.{Gives}
use Rattle.sop_combine.specs.Blast.{is_on, chosen, marks_on, blast_geo}
use Rattle.sop_basic.proofs.SelectLemmas.{stops_at_once}

-- a `blast` of a class, a pattern and flags
abbrev pub blasted : Class → List ℕ → Bool → Bool → Geo → Outcome
blasted class text negate unused g = then_with (by_pattern g class text) (λ flags. Ok (swept g (marks_on g class unused (chosen negate flags))))

module _ (parms : List (List ℕ)) (class : Class) (text : List ℕ) (class_is : class ≡ class_in (parm_at parms 0)) (text_is : text ≡ parm_at parms 1) where
  pub blast_stops : (v : VaultMap) (g : Geo) (s : CookStop) → StopsWith (by_pattern g class text) s → Gives v v (limited (blast_geo parms g)) (Err s)
  blast_stops v g s stops =
      let all = is_on (parm_at parms 3) in
      let negate = is_on (parm_at parms 2) in
      subst (λ o. Gives v v (limited o) (Err s)) (ap (λ c. blasted c text negate all g) class_is ∙ ap (λ t. blasted (class_in (parm_at parms 0)) t negate all g) text_is)
      (stops_at_once v (by_pattern g class text) (λ flags. Ok (swept g (marks_on g class all (chosen negate flags)))) s stops)

  module _ (negate unused : Bool) (negate_is : negate ≡ is_on (parm_at parms 2)) (unused_is : unused ≡ is_on (parm_at parms 3)) where
    pub blast_is : (g : Geo) (flags : List Bool) → by_pattern g class text ≡ Ok flags → Ok (swept g (marks_on g class unused (chosen negate flags))) ≡ blast_geo parms g
    blast_is g flags selected =
        sym (ap (λ r. then_with r (λ flags. Ok (swept g (marks_on g class unused (chosen negate flags))))) selected)
        ∙ ap (λ c. blasted c text negate unused g) class_is
        ∙ ap (λ t. blasted (class_in (parm_at parms 0)) t negate unused g) text_is
        ∙ ap (λ b. blasted (class_in (parm_at parms 0)) (parm_at parms 1) b unused g) negate_is
        ∙ ap (λ b. blasted (class_in (parm_at parms 0)) (parm_at parms 1) (is_on (parm_at parms 2)) b g) unused_is

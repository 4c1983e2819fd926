-- What an `enumerate` node is told, by its parameters.
use Rattle.std.proofs.Common.{◌≡◌, ℕ, Bool, true, false, not, List, sym, ap, ◌∙◌, subst}
use Rattle.std.specs.Prelude.{Ok, Err, if◌then◌else◌, IsTrue}
use Rattle.std.proofs.lemmas.Bool.{and_parts}
use Rattle.sop_model.specs.declared.class.Class.{Class}
use Rattle.sop_model.specs.declared.geo.Geo.{Geo}
use Rattle.sop_model.specs.declared.fault.Fault.TheVariants.{BadParm}
use Rattle.sop_model.specs.declared.fault.CookStop.{CookStop}
use Rattle.sop_model.specs.Names.{is_name}
use Rattle.sop_net.specs.Network.{parm_at}
use Rattle.sop_vault.specs.Vaults.{VaultMap}
use Rattle.sop_vault.specs.Refusals.{IsNoPosition}
use Rattle.sop_basic.specs.ParmTexts.{class_in}
use Rattle.sop_basic.specs.Outcomes.{Outcome, limited, then_with}
use Rattle.sop_basic.specs.Selecting.{by_pattern, StopsWith}
use Rattle.sop_basic.specs.Making.{Gives}
use Rattle.sop_basic.specs.Heads.{is_position}
use Rattle.sop_basic.specs.Enumerate.{counted_under, may_count, enumerate_geo}
use Rattle.sop_basic.proofs.SelectLemmas.{stops_at_once}
use Rattle.sop_basic.proofs.ColumnLemmas.{no_position}

-- elements of a class, a name and a pattern counted, where the name may be or may not
abbrev pub counts_if : Class → List ℕ → List ℕ → Geo → Bool → Outcome
counts_if class name group g may = if may then then_with (by_pattern g class group) (λ flags. Ok (counted_under class name g flags)) else Err BadParm

module _ (parms : List (List ℕ)) (class : Class) (name : List ℕ) (class_is : class ≡ class_in (parm_at parms 0)) (name_is : name ≡ parm_at parms 1) where
  same : may_count class name ≡ may_count (class_in (parm_at parms 0)) (parm_at parms 1)
  same = ap (λ c. may_count c name) class_is ∙ ap (may_count (class_in (parm_at parms 0))) name_is

  pub refused : may_count class name ≡ false → (g : Geo) → limited (enumerate_geo parms g) ≡ Err BadParm
  refused bad g = ap (λ b. limited (counts_if (class_in (parm_at parms 0)) (parm_at parms 1) (parm_at parms 2) g b)) (sym same ∙ bad)

  module _ (group : List ℕ) (group_is : group ≡ parm_at parms 2) (may : may_count class name ≡ true) where
    told : (g : Geo) → counts_if class name group g true ≡ enumerate_geo parms g
    told g =
        ap (λ c. counts_if c name group g true) class_is
        ∙ ap (λ n. counts_if (class_in (parm_at parms 0)) n group g true) name_is
        ∙ ap (λ t. counts_if (class_in (parm_at parms 0)) (parm_at parms 1) t g true) group_is
        ∙ sym (ap (counts_if (class_in (parm_at parms 0)) (parm_at parms 1) (parm_at parms 2) g) (sym same ∙ may))

    pub counts : (g : Geo) (flags : List Bool) → by_pattern g class group ≡ Ok flags → Ok (counted_under class name g flags) ≡ enumerate_geo parms g
    counts g flags selected = sym (ap (λ r. then_with r (λ flags. Ok (counted_under class name g flags))) selected) ∙ told g

    pub counts_stop : (v : VaultMap) (g : Geo) (s : CookStop) → StopsWith (by_pattern g class group) s → Gives v v (limited (enumerate_geo parms g)) (Err s)
    counts_stop v g s stops = subst (λ o. Gives v v (limited o) (Err s)) (told g) (stops_at_once v (by_pattern g class group) (λ flags. Ok (counted_under class name g flags)) s stops)

pub may_name : (class : Class) (name : List ℕ) → may_count class name ≡ true → IsTrue (is_name name)
may_name class name may = (and_parts (is_name name) (not (is_position class name)) may).0

pub may_apart : (class : Class) (name : List ℕ) → may_count class name ≡ true → IsNoPosition class name
may_apart class name may = no_position class name (and_parts (is_name name) (not (is_position class name)) may).1

-- What a `groupcreate` node is told, by its parameters.
use Rattle.std.proofs.Common.{◌≡◌, Bool, true, false, List, ℕ, sym, ap, ◌∙◌, subst}
use Rattle.std.specs.Prelude.{Ok, Err, if◌then◌else◌}
use Rattle.sop_model.specs.declared.class.Class.{Class}
use Rattle.sop_model.specs.declared.geo.Geo.{Geo}
use Rattle.sop_model.specs.declared.fault.Fault.TheVariants.{BadParm}
use Rattle.sop_model.specs.declared.fault.CookStop.{CookStop}
use Rattle.sop_model.specs.Names.{is_name}
use Rattle.sop_net.specs.Network.{parm_at}
use Rattle.sop_vault.specs.Vaults.{VaultMap}
use Rattle.sop_basic.specs.ParmTexts.{class_in}
use Rattle.sop_basic.specs.Outcomes.{Outcome, then_with, limited}
use Rattle.sop_basic.specs.Selecting.{by_pattern, StopsWith}
use Rattle.sop_basic.specs.Making.{Gives}
use Rattle.sop_combine.specs.declared.group_create.Combination.{Combination}
use Rattle.sop_combine.specs.GroupCreate.{combination_in, with_group, members_combined, groupcreate_geo}
use Rattle.sop_basic.proofs.SelectLemmas.{stops_at_once}

-- a group of a class, a name and a pattern, whose name is one or isn't
abbrev pub created : Class → List ℕ → List ℕ → Combination → Geo → Bool → Outcome
created class name text combination g named =
    if named then then_with (by_pattern g class text) (λ flags. Ok (members_combined combination (with_group g class name) class name flags)) else Err BadParm

module _ (parms : List (List ℕ)) (class : Class) (name : List ℕ) (class_is : class ≡ class_in (parm_at parms 0)) (name_is : name ≡ parm_at parms 1) where
  pub name_refused : (g : Geo) → is_name name ≡ false → limited (groupcreate_geo parms g) ≡ Err BadParm
  name_refused g bad = ap (λ b. limited (created (class_in (parm_at parms 0)) (parm_at parms 1) (parm_at parms 2) (combination_in (parm_at parms 3)) g b)) (sym (ap is_name name_is) ∙ bad)

  module _ (text : List ℕ) (text_is : text ≡ parm_at parms 2) (combination : Combination) (combination_is : combination ≡ combination_in (parm_at parms 3)) (named : is_name name ≡ true) where
    told : (g : Geo) → created class name text combination g true ≡ groupcreate_geo parms g
    told g =
        ap (λ c. created c name text combination g true) class_is
        ∙ sym (ap (created (class_in (parm_at parms 0)) name text combination g) named)
        ∙ ap (λ n. created (class_in (parm_at parms 0)) n text combination g (is_name n)) name_is
        ∙ ap (λ t. created (class_in (parm_at parms 0)) (parm_at parms 1) t combination g (is_name (parm_at parms 1))) text_is
        ∙ ap (λ c. created (class_in (parm_at parms 0)) (parm_at parms 1) (parm_at parms 2) c g (is_name (parm_at parms 1))) combination_is

    pub create_is : (g : Geo) (flags : List Bool) → by_pattern g class text ≡ Ok flags → Ok (members_combined combination (with_group g class name) class name flags) ≡ groupcreate_geo parms g
    create_is g flags selected = sym (ap (λ r. then_with r (λ flags. Ok (members_combined combination (with_group g class name) class name flags))) selected) ∙ told g

    pub create_stops : (v : VaultMap) (g : Geo) (s : CookStop) → StopsWith (by_pattern g class text) s → Gives v v (limited (groupcreate_geo parms g)) (Err s)
    create_stops v g s stops =
        subst (λ o. Gives v v (limited o) (Err s)) (told g) (stops_at_once v (by_pattern g class text) (λ flags. Ok (members_combined combination (with_group g class name) class name flags)) s stops)

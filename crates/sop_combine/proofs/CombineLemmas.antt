-- What combining nodes give is well made where their inputs are: each primitive has a vertex.
use Rattle.std.proofs.Common.{◌≡◌, ℕ, Bool, List, [], ◌∷◌, map, refl, sym, subst}
use Rattle.std.specs.Prelude.{All, Option, Some, None, Result, Ok, Err, IfSome, IfOk, IsSomeAnd}
use Rattle.std.specs.Option.{option_and_then}
use Rattle.std.proofs.lemmas.List.Elements.{All-nil, All-cons, All-head, All-tail}
use Rattle.sop_model.specs.declared.class.Class.{Class}
use Rattle.sop_model.specs.declared.geo.Geo.{Geo}
use Rattle.sop_model.specs.declared.fault.Fault.TheVariants.{NoInput, NotYet, BadParm}
use Rattle.sop_model.specs.declared.fault.CookStop.{CookStop}
use Rattle.sop_model.specs.Names.{is_name}
use Rattle.sop_model.specs.Merge.{merged}
use Rattle.sop_model.specs.Sweep.{swept}
use Rattle.sop_model.specs.Geometry.{rows_of, heads_of, IsGood}
use Rattle.sop_model.specs.Rows.{with_last_flag, with_last_group}
use Rattle.sop_rows.proofs.LawLemmas.{leave_good}
use Rattle.sop_rows.proofs.MergeSound.{IsGood-merged}
use Rattle.sop_net.specs.declared.node_type.NodeType.{NodeType}
use Rattle.sop_net.specs.declared.node_type.NodeType.TheVariants as type
use Rattle.sop_net.specs.Network.{parm_at}
use Rattle.sop_vault.specs.Keyed.{at}
use Rattle.sop_vault.specs.Vaults.{VaultMap, IsVault}
use Rattle.sop_vault.proofs.PassLemmas.{readable_at}
use Rattle.sop_basic.specs.ParmTexts.{class_in}
use Rattle.sop_basic.specs.Outcomes.{Outcome, then_with}
use Rattle.sop_basic.specs.Selecting.{by_pattern}
use Rattle.sop_basic.specs.Basic.{input_at, needing}
use Rattle.sop_basic.specs.Making.{Gives}
use Rattle.sop_basic.specs.Cook.{inputs_seen, AreGoodAt}
use Rattle.sop_basic.proofs.CornerLemmas.{HaveVertices, rows_kept, class_kept, Has, has_ok, has_err, has_then, has_if, has_limited}
use Rattle.sop_combine.specs.declared.group_create.Combination.{Combination}
use Rattle.sop_combine.specs.Blast.{is_on, chosen, marks_on, blast_geo}
use Rattle.sop_combine.specs.GroupCreate.{combination_in, with_group_at, with_group, rows_combined, members_combined_at, members_combined, groupcreate_geo}
use Rattle.sop_combine.specs.Combine.{wired, maker_of, made_by, combine_geo}

-- ---- type by type
blast_has : (parms : List (List ℕ)) (g : Geo) → IsGood g → Has (blast_geo parms g)
blast_has parms g good =
    let class = class_in (parm_at parms 0) in
    let marks = λ (flags : List Bool). marks_on g class (is_on (parm_at parms 3)) (chosen (is_on (parm_at parms 2)) flags) in
    has_then (by_pattern g class (parm_at parms 1)) (λ flags. Ok (swept g (marks flags))) (λ flags is. has_ok (swept g (marks flags)) (leave_good.keep g (marks flags) good.sound).corners)

group_has : (g : Geo) (class : Class) (name : List ℕ) (o : Option ℕ) → HaveVertices g → HaveVertices (with_group_at g class name o)
group_has g class name None have = class_kept g class (with_last_group (heads_of g class) name) (map (with_last_flag _) (rows_of g class)) have
group_has g class name (Some i) have = have

members_have : (combination : Combination) (g : Geo) (class : Class) (flags : List Bool) (o : Option ℕ) → HaveVertices g → HaveVertices (members_combined_at combination g class flags o)
members_have combination g class flags None have = have
members_have combination g class flags (Some group) have = rows_kept g class (rows_combined combination group (rows_of g class) flags) have

create_has : (parms : List (List ℕ)) (g : Geo) → HaveVertices g → Has (groupcreate_geo parms g)
create_has parms g have =
    let class = class_in (parm_at parms 0) in
    let name = parm_at parms 1 in
    let combination = combination_in (parm_at parms 3) in
    let go = λ (flags : List Bool). Ok (members_combined combination (with_group g class name) class name flags) in
    has_if (is_name name) (then_with (by_pattern g class (parm_at parms 2)) go) (Err BadParm)
    (has_then (by_pattern g class (parm_at parms 2)) go (λ flags is.
    has_ok (members_combined combination (with_group g class name) class name flags) (members_have combination (with_group g class name) class flags _ (group_has g class name _ have))))
    (has_err BadParm)

-- ---- every type
abbrev AreGood : List (Option Geo) → Type 0
AreGood inputs = All (λ input. IfSome input IsGood) inputs

input_good : (inputs : List (Option Geo)) (g : Geo) → AreGood inputs → input_at inputs 0 ≡ Some g → IsGood g
input_good [] g good is = absurd (cc)
input_good (input ∷ inputs) g good is =
    let same : input ≡ Some g = one input is in
    subst (λ o. IfSome o IsGood) same (All-head (λ input. IfSome input IsGood) input inputs good)
  where
    one : (o : Option Geo) → option_and_then (λ g. g) (Some o) ≡ Some g → o ≡ Some g
    one o is = is

wired_good : (inputs : List (Option Geo)) → AreGood inputs → All IsGood (wired inputs)
wired_good [] good = All-nil IsGood
wired_good (None ∷ inputs) good = wired_good inputs (All-tail (λ input. IfSome input IsGood) None inputs good)
wired_good (Some g ∷ inputs) good = All-cons IsGood g (wired inputs) (All-head (λ input. IfSome input IsGood) (Some g) inputs good) (wired_good inputs (All-tail (λ input. IfSome input IsGood) (Some g) inputs good))

needing_has : (number : ℕ) (o : Option Geo) (go : Geo → Outcome) → ((g : Geo) → o ≡ Some g → Has (go g)) → Has (needing number o go)
needing_has number None go has = has_err (NoInput number)
needing_has number (Some g) go has = has g refl

module _ (parms : List (List ℕ)) (inputs : List (Option Geo)) (good : AreGood inputs) where
  first_has : (go : Geo → Outcome) → ((g : Geo) → IsGood g → Has (go g)) → Has (needing 0 (input_at inputs 0) go)
  first_has go has = needing_has 0 (input_at inputs 0) go (λ g is. has g (input_good inputs g good is))

  made_has : (t : NodeType) → Has (made_by (maker_of t) parms inputs)
  made_has type.File = has_err NotYet
  made_has type.Add = has_err NotYet
  made_has type.Line = has_err NotYet
  made_has type.Grid = has_err NotYet
  made_has type.Box = has_err NotYet
  made_has type.Null = has_err NotYet
  made_has type.Switch = has_err NotYet
  made_has type.Xform = has_err NotYet
  made_has type.AttribCreate = has_err NotYet
  made_has type.AttribDelete = has_err NotYet
  made_has type.Enumerate = has_err NotYet
  made_has type.Merge = has_ok (merged (wired inputs)) (IsGood-merged (wired inputs) (wired_good inputs good)).corners
  made_has type.Blast = first_has (blast_geo parms) (blast_has parms)
  made_has type.GroupCreate = first_has (groupcreate_geo parms) (λ g good. create_has parms g good.corners)
  made_has type.CopyToPoints = has_err NotYet
  made_has type.Sort = has_err NotYet
  made_has type.Fuse = has_err NotYet
  made_has type.Reverse = has_err NotYet
  made_has type.AttribWrangle = has_err NotYet
  made_has type.BlockBegin = has_err NotYet
  made_has type.BlockEnd = has_err NotYet
  made_has type.CompileBegin = has_err NotYet
  made_has type.CompileEnd = has_err NotYet

  combine_has : (t : NodeType) → Has (combine_geo t parms inputs)
  combine_has t = has_limited (made_by (maker_of t) parms inputs) (made_has t)

-- ---- over a vault
seen_good : (v : VaultMap) (keys : List (Option ℕ)) → AreGoodAt v keys → AreGood (inputs_seen v keys)
seen_good v [] good = All-nil (λ input. IfSome input IsGood)
seen_good v (input ∷ keys) good =
    All-cons (λ input. IfSome input IsGood) (option_and_then (at v.geos) input) (inputs_seen v keys)
    (one input (All-head (λ input. IfSome input (λ key. IsSomeAnd (at v.geos key) IsGood)) input keys good))
    (seen_good v keys (All-tail (λ input. IfSome input (λ key. IsSomeAnd (at v.geos key) IsGood)) input keys good))
  where
    there : (o : Option Geo) → IsSomeAnd o IsGood → IfSome o IsGood
    there None good = tt
    there (Some g) good = good

    one : (o : Option ℕ) → IfSome o (λ key. IsSomeAnd (at v.geos key) IsGood) → IfSome (option_and_then (at v.geos) o) IsGood
    one None good = tt
    one (Some key) good = there (at v.geos key) good

pub good_made : (old new : VaultMap) (t : NodeType) (parms : List (List ℕ)) (keys : List (Option ℕ)) (r : Result ℕ CookStop) → IsVault new
    → Gives old new (combine_geo t parms (inputs_seen old keys)) r → AreGoodAt old keys → IfOk r (λ key. IsSomeAnd (at new.geos key) IsGood)
good_made old new t parms keys (Ok key) is (g, made, add) good =
    let sound = (readable_at new is key g add.geos.here).0.sound in
    subst (λ o. IsSomeAnd o IsGood) (sym add.geos.here) (record { sound = sound; corners = combine_has parms (inputs_seen old keys) (seen_good old keys good) t g made })
good_made old new t parms keys (Err s) is gives good = tt

-- The faults of combining nodes, type by type, and of all nodes that can be cooked.
use Rattle.std.proofs.Common.{◌≡◌, ℕ, Bool, true, false, List, if◌then◌else◌}
use Rattle.std.specs.Prelude.{Option, Ok, Err}
use Rattle.sop_model.specs.declared.geo.Geo.{Geo}
use Rattle.sop_model.specs.declared.fault.Fault.{Fault}
use Rattle.sop_model.specs.declared.fault.Fault.TheVariants as fault
use Rattle.sop_model.specs.Names.{is_name}
use Rattle.sop_model.specs.Sweep.{swept}
use Rattle.sop_net.specs.declared.node_type.NodeType.{NodeType}
use Rattle.sop_net.specs.declared.node_type.NodeType.TheVariants as type
use Rattle.sop_net.specs.Network.{parm_at}
use Rattle.sop_basic.specs.Loads.{FileMap}
use Rattle.sop_basic.specs.Outcomes.{then_with, within_limits}
use Rattle.sop_basic.specs.Selecting.{by_pattern}
use Rattle.sop_basic.specs.ParmTexts.{class_in}
use Rattle.sop_basic.specs.File.{file_geo}
use Rattle.sop_basic.specs.Basic.{input_at, basic_geo}
use Rattle.sop_combine.specs.Blast.{is_on, chosen, marks_on, blast_geo}
use Rattle.sop_combine.specs.GroupCreate.{combination_in, with_group, members_combined, groupcreate_geo}
use Rattle.sop_combine.specs.Combine.{maker_of, made_by, is_combining, combine_geo}
use Rattle.sop_cook.specs.Made.{node_geo}
use Rattle.sop_cook.proofs.BasicFaults.{Fails, HoldsOfOwn, fails_then, fails_within, fails_selecting, fails_needing, basic_fails}

module _ (P : Fault → Type 0) (own : HoldsOfOwn P) where
  fails_blast : (parms : List (List ℕ)) (g : Geo) → Fails P (blast_geo parms g)
  fails_blast parms g =
      let class = class_in (parm_at parms 0) in
      fails_then P own (by_pattern g class (parm_at parms 1)) (λ flags. Ok (swept g (marks_on g class (is_on (parm_at parms 3)) (chosen (is_on (parm_at parms 2)) flags))))
      (fails_selecting P own g class (parm_at parms 1)) (λ flags. tt)

  fails_group : (parms : List (List ℕ)) (g : Geo) → Fails P (groupcreate_geo parms g)
  fails_group parms g = by (is_name (parm_at parms 1))
    where
      by : (b : Bool) → Fails P (if b then then_with (by_pattern g (class_in (parm_at parms 0)) (parm_at parms 2)) (λ flags. Ok (members_combined (combination_in (parm_at parms 3)) (with_group g (class_in (parm_at parms 0)) (parm_at parms 1)) (class_in (parm_at parms 0)) (parm_at parms 1) flags)) else Err fault.BadParm)
      by true =
          let class = class_in (parm_at parms 0) in
          let name = parm_at parms 1 in
          fails_then P own (by_pattern g class (parm_at parms 2)) (λ flags. Ok (members_combined (combination_in (parm_at parms 3)) (with_group g class name) class name flags)) (fails_selecting P own g class (parm_at parms 2)) (λ flags. tt)
      by false = own.bad_parm

  made_fails : (t : NodeType) (parms : List (List ℕ)) (inputs : List (Option Geo)) → Fails P (made_by (maker_of t) parms inputs)
  made_fails type.Merge parms inputs = tt
  made_fails type.Blast parms inputs = fails_needing P own 0 (input_at inputs 0) (blast_geo parms) (fails_blast parms)
  made_fails type.GroupCreate parms inputs = fails_needing P own 0 (input_at inputs 0) (groupcreate_geo parms) (fails_group parms)
  made_fails other parms inputs = own.not_yet

  combine_fails : (t : NodeType) (parms : List (List ℕ)) (inputs : List (Option Geo)) → Fails P (combine_geo t parms inputs)
  combine_fails t parms inputs = fails_then P own (made_by (maker_of t) parms inputs) within_limits (made_fails t parms inputs) (fails_within P own)

  pub node_fails : (files : FileMap) (t : NodeType) (parms : List (List ℕ)) (inputs : List (Option Geo)) → (t ≡ type.File → Fails P (file_geo (files (parm_at parms 0)))) → Fails P (node_geo files t parms inputs)
  node_fails files t parms inputs file = by (is_combining t)
    where
      by : (b : Bool) → Fails P (if b then combine_geo t parms inputs else basic_geo files t parms inputs)
      by true = combine_fails t parms inputs
      by false = basic_fails P own files t parms inputs file

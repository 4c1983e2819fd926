-- Worked examples of visits and of the cook, by computation.
use Rattle.std.specs.Prelude.{◌≡◌, refl, ℕ, Bool, true, false, List, [], ◌∷◌, Option, None, Some, Ok, Err, codes, if◌then◌else◌, bytes_eq}
use Rattle.sop_model.specs.declared.fault.Fault.TheVariants as fault
use Rattle.sop_model.specs.Geometry.{empty_geo}
use Rattle.sop_net.specs.declared.node_type.NodeType.{NodeType}
use Rattle.sop_net.specs.declared.node_type.NodeType.TheVariants as type
use Rattle.sop_net.specs.declared.node.Node.{Node}
use Rattle.sop_net.specs.Sockets.{Socket}
use Rattle.sop_basic.specs.declared.loaded.LoadedFile.TheVariants.{Bytes, Missing, TooLong}
use Rattle.sop_basic.specs.Loads.{FileMap}
use Rattle.sop_cook.specs.Visit.{Outcome, failed, Visit, ask_all, visit}
use Rattle.sop_cook.specs.SerialCook.{run, cook_of}

-- `a` is empty, `b` is too long, and there is no other file
abbrev files : FileMap
files name = if bytes_eq name (codes "a") then Bytes [] else if bytes_eq name (codes "b") then TooLong else Missing

abbrev node : ℕ → NodeType → List (List ℕ) → List (Option ℕ) → Node
node number t parms wires = record { number = number; name = codes "n"; node_type = t; parms = parms; wires = wires }

abbrev nodes : List Node
nodes =
    node 0 type.File (codes "a" ∷ []) []
    ∷ node 1 type.File (codes "b" ∷ []) []
    ∷ node 2 type.File (codes "c" ∷ []) []
    ∷ node 3 type.Null [] (Some 0 ∷ [])
    ∷ node 4 type.Null [] (None ∷ [])
    ∷ node 5 type.Switch (codes "1" ∷ []) (Some 2 ∷ Some 3 ∷ [])
    ∷ node 6 type.Switch (codes "2" ∷ []) (Some 2 ∷ Some 3 ∷ [])
    ∷ node 7 type.Merge [] (None ∷ Some 0 ∷ None ∷ Some 5 ∷ [])
    ∷ node 8 type.Merge [] (Some 3 ∷ Some 2 ∷ Some 1 ∷ [])
    ∷ node 9 type.Blast [] (None ∷ [])
    ∷ node 14 type.Sort [] (None ∷ [])
    ∷ node 11 type.Xform (codes "0 0 0" ∷ codes "1 1 1" ∷ [] ∷ []) (None ∷ [])
    ∷ node 12 type.Xform (codes "0 0 0" ∷ codes "1 1 1" ∷ codes "g" ∷ []) (Some 0 ∷ [])
    ∷ node 10 type.CopyToPoints [] (Some 1 ∷ None ∷ [])
    ∷ []

a_file_that_is_empty : cook_of files nodes 0 ≡ Ok empty_geo
a_file_that_is_empty = refl

a_file_that_is_too_long : cook_of files nodes 1 ≡ Err (failed 1 fault.Limit)
a_file_that_is_too_long = refl

a_file_that_is_missing : cook_of files nodes 2 ≡ Err (failed 2 fault.NoFile)
a_file_that_is_missing = refl

an_unwired_null : cook_of files nodes 4 ≡ Err (failed 4 (fault.NoInput 0))
an_unwired_null = refl

-- the missing file at the other input isn't asked for
a_switch_takes_one_input : cook_of files nodes 5 ≡ Ok empty_geo
a_switch_takes_one_input = refl

a_switch_without_its_input : cook_of files nodes 6 ≡ Err (failed 6 (fault.NoInput 2))
a_switch_without_its_input = refl

an_unwired_input_of_a_merge_is_passed_over : cook_of files nodes 7 ≡ Ok empty_geo
an_unwired_input_of_a_merge_is_passed_over = refl

-- the fault of the lower input wins, with its own node
the_first_fault_wins : cook_of files nodes 8 ≡ Err (failed 2 fault.NoFile)
the_first_fault_wins = refl

a_type_that_is_not_built : cook_of files nodes 14 ≡ Err (failed 14 fault.NotYet)
a_type_that_is_not_built = refl

an_unwired_input_of_a_combining_node : cook_of files nodes 9 ≡ Err (failed 9 (fault.NoInput 0))
an_unwired_input_of_a_combining_node = refl

an_unwired_input_of_a_basic_node : cook_of files nodes 11 ≡ Err (failed 11 (fault.NoInput 0))
an_unwired_input_of_a_basic_node = refl

a_group_that_is_not_there : cook_of files nodes 12 ≡ Err (failed 12 (fault.NoGroup 0))
a_group_that_is_not_there = refl

-- although its inputs have faults
a_type_that_is_not_built_asks_for_nothing : visit files 10 (Some (node 10 type.CopyToPoints [] (Some 1 ∷ None ∷ []))) ≡ Visit.Give (Err (failed 10 fault.NotYet))
a_type_that_is_not_built_asks_for_nothing = refl

abbrev socket : ℕ → Bool → Option ℕ → Socket
socket input is_needed wire = record { input = input; is_needed = is_needed; wire = wire }

abbrev asked : List Socket → Outcome
asked sockets = run (cook_of files nodes) (ask_all 13 sockets (λ inputs. Visit.Give (Ok empty_geo)))

-- NoInput comes in its turn: behind the fault of a lower input, before that of a higher one
an_unwired_input_behind_a_fault : asked (socket 0 true (Some 1) ∷ socket 1 true None ∷ []) ≡ Err (failed 1 fault.Limit)
an_unwired_input_behind_a_fault = refl

an_unwired_input_before_a_fault : asked (socket 0 true None ∷ socket 1 true (Some 1) ∷ []) ≡ Err (failed 13 (fault.NoInput 0))
an_unwired_input_before_a_fault = refl

an_optional_input_before_a_fault : asked (socket 0 false None ∷ socket 1 false (Some 1) ∷ []) ≡ Err (failed 1 fault.Limit)
an_optional_input_before_a_fault = refl

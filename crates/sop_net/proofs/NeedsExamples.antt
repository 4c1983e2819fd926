-- Worked examples of the files that a cook needs, by computation.
use Rattle.std.specs.Prelude.{◌≡◌, refl, ℕ, List, [], ◌∷◌, Option, None, Some, codes}
use Rattle.sop_net.specs.declared.node.Node.{Node}
use Rattle.sop_net.specs.declared.node_type.NodeType.TheVariants as type
use Rattle.sop_net.specs.Needs.{needed}

abbrev file : ℕ → List ℕ → Node
file number name = record { number = number; name = codes "file"; node_type = type.File; parms = name ∷ []; wires = [] }

abbrev merge : ℕ → List (Option ℕ) → Node
merge number wires = record { number = number; name = codes "merge"; node_type = type.Merge; parms = []; wires = wires }

abbrev switch : ℕ → List ℕ → List (Option ℕ) → Node
switch number input wires = record { number = number; name = codes "switch"; node_type = type.Switch; parms = input ∷ []; wires = wires }

-- two nodes load b.obj; node 3 takes a.obj first, 7 takes 3 twice over
abbrev nodes : List Node
nodes =
    file 0 (codes "b.obj") ∷ file 1 (codes "a.obj") ∷ file 2 (codes "b.obj")
    ∷ merge 3 (Some 1 ∷ None ∷ Some 2 ∷ Some 0 ∷ [])
    ∷ switch 4 (codes "1") (Some 3 ∷ Some 0 ∷ [])
    ∷ switch 5 (codes "2") (Some 3 ∷ Some 0 ∷ [])
    ∷ merge 7 (Some 4 ∷ Some 3 ∷ Some 3 ∷ [])
    ∷ []

of_a_file : needed nodes 2 ≡ 2 ∷ []
of_a_file = refl

-- in order of inputs and not of making, and each name once
of_a_merge : needed nodes 3 ≡ 1 ∷ 2 ∷ []
of_a_merge = refl

-- only the wire that is taken
of_a_switch : needed nodes 4 ≡ 0 ∷ []
of_a_switch = refl

of_a_switch_that_takes_no_wire : needed nodes 5 ≡ []
of_a_switch_that_takes_no_wire = refl

-- the first node of b.obj that is met
of_more : needed nodes 7 ≡ 0 ∷ 1 ∷ []
of_more = refl

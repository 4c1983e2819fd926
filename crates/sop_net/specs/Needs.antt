-- The files that the cook of a node needs: those of the `file` nodes among it and the nodes upstream of it by used wires, depth first by
-- rising input number, inputs before the node, each name once.
use Rattle.std.specs.Prelude.{◌≡◌, ℕ, zero, suc, Bool, false, if◌then◌else◌, List, [], ◌∷◌, ◌++◌, length, flat_map, Option, None, Some, option_map, bytes_eq}
use Rattle.std.specs.List.{list_any}
use Rattle.sop_net.specs.declared.node_type.NodeType.{NodeType}
use Rattle.sop_net.specs.declared.node_type.NodeType.TheVariants as type
use Rattle.sop_net.specs.declared.node.Node.{Node}
use Rattle.sop_net.specs.Network.{node_of, used_sources, parm_at}

-- the nodes at most so many steps upstream, inputs before the node; a node stands once for each way to it
abbrev pub walk : ℕ → List Node → ℕ → List ℕ
walk zero nodes x = []
walk (suc k) nodes x = flat_map (walk k nodes) (used_sources nodes x) ++ x ∷ []

-- the file that a node loads
abbrev pub file_of_type : NodeType → Node → Option (List ℕ)
file_of_type type.File n = Some (parm_at n.parms 0)
file_of_type other n = None

abbrev pub file_of_node : Option Node → Option (List ℕ)
file_of_node None = None
file_of_node (Some n) = file_of_type n.node_type n

abbrev pub file_of : List Node → ℕ → Option (List ℕ)
file_of nodes x = file_of_node (node_of nodes x)

-- a `file` node of this number stands
abbrev pub IsFileNode : List Node → ℕ → Type 0
IsFileNode nodes x = option_map (λ n. n.node_type) (node_of nodes x) ≡ Some type.File

abbrev pub is_file_named : Option (List ℕ) → List ℕ → Bool
is_file_named None name = false
is_file_named (Some file) name = bytes_eq file name

-- a node is listed behind the others where it loads a file that none of them loads
abbrev pub listed : List Node → List ℕ → Option (List ℕ) → ℕ → List ℕ
listed nodes so_far None x = so_far
listed nodes so_far (Some name) x = if list_any (λ y. is_file_named (file_of nodes y) name) so_far then so_far else so_far ++ x ∷ []

abbrev pub with_file : List Node → List ℕ → ℕ → List ℕ
with_file nodes so_far x = listed nodes so_far (file_of nodes x) x

-- the first node of each file name
abbrev pub first_files : List Node → List ℕ → List ℕ → List ℕ
first_files nodes so_far [] = so_far
first_files nodes so_far (x ∷ xs) = first_files nodes (with_file nodes so_far x) xs

-- without cycles no way upstream is longer than the number of nodes
abbrev pub needed : List Node → ℕ → List ℕ
needed nodes x = first_files nodes [] (walk (length nodes) nodes x)

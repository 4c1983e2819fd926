-- What is read of a node that stands.
use Rattle.std.proofs.Common.{◌≡◌, Bool, true, false, cond, ◌==◌, ℕ, ◌<◌, List, [], ◌∷◌, length, refl, subst, arith}
use Rattle.std.specs.Prelude.{All, Option, None, Some, slice_get, option_map}
use Rattle.std.proofs.lemmas.List.Elements.{All-head, All-tail}
use Rattle.sop_net.specs.declared.node.Node.{Node}
use Rattle.sop_net.specs.declared.node_type.NodeType.TheVariants as type
use Rattle.sop_net.specs.NodeTable.{parms_of}
use Rattle.sop_net.specs.Network.{node_of, parm_at, AreValues, IsNodeOf}

-- a read of a node that stands
pub record Read {X : Type 0} (nodes : List Node) (x : ℕ) (read : Node → X) (v : X) : Type 0 where
  pub node : Node
  pub found : node_of nodes x ≡ Some node
  pub is : read node ≡ v

pub read_node : {X : Type 0} (nodes : List Node) (x : ℕ) (read : Node → X) (v : X) → option_map read (node_of nodes x) ≡ Some v → Read nodes x read v
read_node {X} nodes x read v h = by (node_of nodes x) refl h
  where
    by : (found : Option Node) → node_of nodes x ≡ found → option_map read found ≡ Some v → Read nodes x read v
    by None here e = let no : ⊥ = cc in absurd no
    by (Some n) here e = record { node = n; found = here; is = let same : read n ≡ v = cc in same }

fits_by : (nodes : List Node) (x : ℕ) (m n : Node) (b : Bool) → IsNodeOf m → cond b (Some m) (node_of nodes x) ≡ Some n → (node_of nodes x ≡ Some n → IsNodeOf n) → IsNodeOf n
fits_by nodes x m n true here h rest = let same : m ≡ n = cc in subst IsNodeOf same here
fits_by nodes x m n false here h rest = rest h

pub node_fits : (nodes : List Node) (x : ℕ) (n : Node) → All IsNodeOf nodes → node_of nodes x ≡ Some n → IsNodeOf n
node_fits [] x n all h = let no : ⊥ = cc in absurd no
node_fits (m ∷ nodes) x n all h = fits_by nodes x m n (m.number == x) (All-head IsNodeOf m nodes all) h (node_fits nodes x n (All-tail IsNodeOf m nodes all))

some_text : (texts : List (List ℕ)) → AreValues (parms_of type.File) texts → 0 < length texts
some_text [] h = absurd h
some_text (text ∷ texts) h = omega arith

-- a file node has a parameter
pub file_parms : (n : Node) → n.node_type ≡ type.File → IsNodeOf n → 0 < length n.parms
file_parms n node_type fits = some_text n.parms (subst (λ k. AreValues (parms_of k) n.parms) node_type fits.parms)

pub first_parm : (texts : List (List ℕ)) (text : List ℕ) → slice_get texts 0 ≡ Some text → text ≡ parm_at texts 0
first_parm [] text h = let no : ⊥ = cc in absurd no
first_parm (t ∷ texts) text h = let same : text ≡ t = cc in same

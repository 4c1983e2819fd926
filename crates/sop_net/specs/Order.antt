-- An order of the nodes in which each stands behind all that it takes from, which the network keeps.
use Rattle.std.specs.Prelude.{◌≡◌, ℕ, ◌<◌, ◌≤◌, ◌⊎◌, ◌==◌, IsTrue, ⊤, Bool, true, false, if◌then◌else◌, List, [], ◌∷◌, length, map, All, Option, None, Some, slice_index_or}
use Rattle.sop_net.specs.declared.node.Node.{Node}
use Rattle.sop_net.specs.Network.{place_of, sources, IsLive, IsNetwork}

-- x is an element
abbrev pub In : List ℕ → ℕ → Type 0
In [] x = ⊥
In (y ∷ ys) x = (y ≡ x) ⊎ In ys x

-- each node of an order stands behind all that it takes from, with these before the order
abbrev pub IsOrdered : (ℕ → List ℕ) → List ℕ → List ℕ → Type 0
IsOrdered f before [] = ⊤
IsOrdered f before (x ∷ order) = ((y : ℕ) → In (f x) y → In before y) × IsOrdered f (x ∷ before) order

-- exactly the nodes that stand, in such an order
pub record IsOrder (f : ℕ → List ℕ) (nodes : List Node) (order : List ℕ) : Type 0 where
  pub ordered : IsOrdered f [] order
  pub complete : (x : ℕ) → IsLive nodes x → In order x
  pub live : (x : ℕ) → In order x → IsLive nodes x
  pub short : length order ≤ length nodes

-- what a network keeps: its nodes, their names in order, and an order of them
pub record IsKept (nodes : List Node) (names : List (List ℕ)) (order : List ℕ) (added : ℕ) : Type 0 where
  pub network : IsNetwork (record { nodes = nodes; added = added })
  pub same_names : names ≡ map (λ n. n.name) nodes
  pub is_order : IsOrder (sources nodes) nodes order

-- what nodes take from with one wire more, from `source` into `node`
abbrev pub with_source : (ℕ → List ℕ) → ℕ → ℕ → ℕ → List ℕ
with_source f node source x = if x == node then source ∷ f x else f x

-- `source` stands in the order, and no node as far as it is `node`
abbrev pub comes_first : ℕ → ℕ → List ℕ → Bool
comes_first source node [] = false
comes_first source node (x ∷ order) = if x == node then false else if x == source then true else comes_first source node order

-- what nodes are marked with, by their places
abbrev pub mark_at : {A : Type 0} → A → List A → Option ℕ → A
mark_at none marks None = none
mark_at none marks (Some i) = slice_index_or marks i none

abbrev pub flag_of : List Node → List Bool → ℕ → Bool
flag_of nodes flags x = mark_at false flags (place_of nodes x)

abbrev pub rank_of : List Node → List ℕ → ℕ → ℕ
rank_of nodes ranks x = mark_at 0 ranks (place_of nodes x)

-- a rank of each node, by its place: of two nodes the one of lesser rank comes first in the order
pub record IsRanking (nodes : List Node) (order ranks : List ℕ) : Type 0 where
  pub each : length ranks ≡ length nodes
  pub first : (x y : ℕ) → In order x → In order y → rank_of nodes ranks x < rank_of nodes ranks y → IsTrue (comes_first x y order)

-- such ranks, so that the number of the node that is added next ranks behind them
pub record IsRanked (nodes : List Node) (order ranks : List ℕ) (added : ℕ) : Type 0 where
  pub ranking : IsRanking nodes order ranks
  pub below : All (λ rank. rank < added) ranks

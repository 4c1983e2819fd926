-- No step of a network is refused for want of memory.
use Rattle.std.proofs.Common.{◌≡◌, ℕ, List, [], ◌∷◌, Bool, true, false, cond, not, length}
use Rattle.std.specs.Prelude.{Option, None, Some, Ok, Err, is_some, find, slice_get, bytes_eq, nat_lt}
use Rattle.sop_model.specs.Names.{is_name}
use Rattle.sop_net.specs.declared.node_type.NodeType.{NodeType}
use Rattle.sop_net.specs.declared.node.Node.{Node}
use Rattle.sop_net.specs.declared.net_end.NetEnd.{NetEnd}
use Rattle.sop_net.specs.declared.net_end.NetEnd.TheVariants as end
use Rattle.sop_net.specs.NodeTable.{Parm, type_of_word, parms_of}
use Rattle.sop_net.specs.ParmValues.{is_value}
use Rattle.sop_net.specs.Network.{Network, place_named}
use Rattle.sop_net.specs.Steps.{Step, added_node, added_of_type, has_no_room, on_node, on_node_at, on_named, refusal_of_value, refusal_of_pairs, first_of, unless_refused, set_on, set_node, input_of_text, is_upstream, wired_into, wire_on, wired_node, removed_node}

-- a step that isn't refused for want of memory
abbrev Spares : Step → Type 0
Spares step = step ≡ Err end.Memory → ⊥

spares_if : (b : Bool) (x y : Step) → Spares x → Spares y → Spares (cond b x y)
spares_if true x y h g = h
spares_if false x y h g = g

spares_ok : (net : Network) → Spares (Ok net)
spares_ok net e = cc

spares_type : (net : Network) (o : Option NodeType) (name : List ℕ) → Spares (added_of_type net o name)
spares_type net None name = λ e. cc
spares_type net (Some node_type) name = spares_if (has_no_room net) _ _ (λ e. cc) (λ e. cc)

pub spares_added : (net : Network) (word name : List ℕ) → Spares (added_node net word name)
spares_added net word name =
    spares_if (not (is_name name)) _ _ (λ e. cc) (spares_if (is_some (place_named net.nodes name)) _ _ (λ e. cc) (spares_type net (type_of_word word) name))

spares_node : (net : Network) (at : ℕ) (o : Option Node) (go : ℕ → Node → Step) → ((at : ℕ) (n : Node) → Spares (go at n)) → Spares (on_node net at o go)
spares_node net at None go h = λ e. cc
spares_node net at (Some n) go h = h at n

spares_at : (net : Network) (o : Option ℕ) (go : ℕ → Node → Step) → ((at : ℕ) (n : Node) → Spares (go at n)) → Spares (on_node_at net o go)
spares_at net None go h = λ e. cc
spares_at net (Some at) go h = spares_node net at (slice_get net.nodes at) go h

spares_named : (net : Network) (name : List ℕ) (go : ℕ → Node → Step) → ((at : ℕ) (n : Node) → Spares (go at n)) → Spares (on_named net name go)
spares_named net name go h = spares_at net (place_named net.nodes name) go h

-- a refusal of parameters that isn't for want of memory
abbrev Names : Option NetEnd → Type 0
Names o = o ≡ Some end.Memory → ⊥

names_if : (b : Bool) (x y : Option NetEnd) → Names x → Names y → Names (cond b x y)
names_if true x y h g = h
names_if false x y h g = g

names_value : (o : Option Parm) (value : List ℕ) → Names (refusal_of_value o value)
names_value None value = λ e. cc
names_value (Some p) value = names_if (is_value p.kind value) _ _ (λ e. cc) (λ e. cc)

names_first : (o later : Option NetEnd) → Names o → Names later → Names (first_of o later)
names_first None later h g = g
names_first (Some stop) later h g = h

names_pairs : (node_type : NodeType) (pairs : List (List ℕ)) → Names (refusal_of_pairs node_type pairs)
names_pairs node_type [] = λ e. cc
names_pairs node_type (parm ∷ []) = λ e. cc
names_pairs node_type (parm ∷ value ∷ pairs) = names_first _ _ (names_value (find (λ p. bytes_eq p.name parm) (parms_of node_type)) value) (names_pairs node_type pairs)

spares_refusal : (o : Option NetEnd) (net : Network) → Names o → Spares (unless_refused o net)
spares_refusal None net h = λ e. cc
spares_refusal (Some stop) net h = λ e. h (cc)

pub spares_set : (net : Network) (name : List ℕ) (pairs : List (List ℕ)) → Spares (set_node net name pairs)
spares_set net name pairs = spares_named net name (set_on net pairs) (λ at n. spares_refusal (refusal_of_pairs n.node_type pairs) _ (names_pairs n.node_type pairs))

spares_into : (net : Network) (at : ℕ) (n : Node) (source : ℕ) (o : Option ℕ) → Spares (wired_into net at n source o)
spares_into net at n source None = λ e. cc
spares_into net at n source (Some input) =
    spares_if (not (nat_lt input (length n.wires))) _ _ (λ e. cc) (spares_if (is_upstream net source n.number) _ _ (λ e. cc) (λ e. cc))

pub spares_wired : (net : Network) (name index source : List ℕ) → Spares (wired_node net name index source)
spares_wired net name index source =
    spares_named net name (wire_on net index source) (λ at n. spares_named net source (λ source_at s. wired_into net at n s.number (input_of_text index)) (λ source_at s. spares_into net at n s.number (input_of_text index)))

pub spares_removed : (net : Network) (name : List ℕ) → Spares (removed_node net name)
spares_removed net name = spares_named net name _ (λ at n. λ e. cc)

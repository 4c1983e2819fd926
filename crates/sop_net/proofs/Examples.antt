-- Worked examples of the steps of a network and of the texts that parameters take, by computation.
use Rattle.std.proofs.Common.{◌≡◌, refl, ℕ, List, [], ◌∷◌, true, false}
use Rattle.std.specs.Prelude.{None, Some, Ok, Err, codes, pos, replicate, map}
use Rattle.sop_net.specs.declared.node_type.NodeType.TheVariants as type
use Rattle.sop_net.specs.declared.net_end.NetEnd.TheVariants.{BadName, NameTaken, NoType, NoNode, NoParm, BadValue, BadInput, Cycle}
use Rattle.sop_net.specs.declared.node.Node.{Node}
use Rattle.sop_net.specs.Network.{Network, empty_network, new_node, used_sources}
use Rattle.sop_net.specs.Sockets.{sockets_of}
use Rattle.sop_net.specs.NodeTable.{default_parms, Whole, Numeral, Vector, Vectors, Flag, Choice}
use Rattle.sop_net.specs.ParmValues.{is_value}
use Rattle.sop_net.specs.Steps.{added_node, set_node, wired_node, removed_node}

abbrev one : Network
one = record { nodes = new_node 0 type.Null (codes "a") ∷ []; added = 1 }

-- a node is added; its name, its type's word and its parameters are judged in this order
added : added_node empty_network (codes "null") (codes "a") ≡ Ok one
added = refl

bad_name : added_node one (codes "volume") (codes "1a") ≡ Err BadName
bad_name = refl

taken_name : added_node one (codes "volume") (codes "a") ≡ Err NameTaken
taken_name = refl

no_type : added_node one (codes "volume") (codes "v") ≡ Err NoType
no_type = refl

no_parm : set_node one (codes "a") (codes "x" ∷ codes "1" ∷ []) ≡ Err NoParm
no_parm = refl

bad_input : wired_node one (codes "a") (codes "1") (codes "a") ≡ Err BadInput
bad_input = refl

own_wire : wired_node one (codes "a") (codes "0") (codes "a") ≡ Err Cycle
own_wire = refl

no_node : removed_node one (codes "b") ≡ Err NoNode
no_node = refl

-- NoNode for the node and for the source goes before BadInput
no_source : wired_node one (codes "a") (codes "x") (codes "b") ≡ Err NoNode
no_source = refl

-- a chain: b takes from a, c from b
abbrev null : ℕ → List ℕ → ℕ → Node
null number name source = record { number = number; name = name; node_type = type.Null; parms = []; wires = Some source ∷ [] }

abbrev chain : Network
chain = record { nodes = new_node 0 type.Null (codes "a") ∷ null 1 (codes "b") 0 ∷ null 2 (codes "c") 1 ∷ []; added = 3 }

long_cycle : wired_node chain (codes "a") (codes "0") (codes "c") ≡ Err Cycle
long_cycle = refl

-- `00` is the input 0, and a former wire there is replaced
replaced : wired_node chain (codes "c") (codes "00") (codes "a")
    ≡ Ok (record { nodes = new_node 0 type.Null (codes "a") ∷ null 1 (codes "b") 0 ∷ null 2 (codes "c") 0 ∷ []; added = 3 })
replaced = refl

three_digits : wired_node chain (codes "c") (codes "000") (codes "a") ≡ Err BadInput
three_digits = refl

-- with a node all wires that touch it go; the others keep their numbers
removed : removed_node chain (codes "b") ≡ Ok (record { nodes = new_node 0 type.Null (codes "a") ∷ new_node 2 type.Null (codes "c") ∷ []; added = 3 })
removed = refl

-- all pairs are judged before the first is set, and of one parameter twice the last text stays
abbrev line : List (List ℕ) → Network
line parms = record { nodes = record { number = 0; name = codes "l"; node_type = type.Line; parms = parms; wires = [] } ∷ []; added = 1 }

second_pair : set_node (line (default_parms type.Line)) (codes "l") (codes "points" ∷ codes "3" ∷ codes "points" ∷ codes "0" ∷ []) ≡ Err BadValue
second_pair = refl

last_stays : set_node (line (default_parms type.Line)) (codes "l") (codes "points" ∷ codes "3" ∷ codes "dist" ∷ codes "1e1" ∷ codes "points" ∷ codes "04" ∷ [])
    ≡ Ok (line (codes "0 0 0" ∷ codes "0 1 0" ∷ codes "1e1" ∷ codes "04" ∷ []))
last_stays = refl

-- a switch uses the wire into the input that it takes
abbrev switch : List ℕ → List Node
switch input = record { number = 3; name = codes "s"; node_type = type.Switch; parms = input ∷ []; wires = Some 0 ∷ None ∷ Some 2 ∷ replicate 29 None } ∷ []

switch_input : used_sources (switch (codes "2")) 3 ≡ 2 ∷ []
switch_input = refl

switch_unwired : used_sources (switch (codes "1")) 3 ≡ []
switch_unwired = refl

-- a switch asks for the input that it takes, which it needs; an `add` needs none
switch_socket : map sockets_of (switch (codes "2")) ≡ (record { input = 2; is_needed = true; wire = Some 2 } ∷ []) ∷ []
switch_socket = refl

optional_socket : sockets_of (new_node 0 type.Add (codes "a")) ≡ record { input = 0; is_needed = false; wire = None } ∷ []
optional_socket = refl

-- whole numbers: leading zeros and `-0` are fine, `+`, blanks and an 11th digit aren't
leading_zeros : is_value (Whole (pos 0) (pos 31)) (codes "0000000031") ≡ true
leading_zeros = refl

minus_zero : is_value (Whole (pos 0) (pos 31)) (codes "-0") ≡ true
minus_zero = refl

plus : is_value (Whole (pos 0) (pos 31)) (codes "+1") ≡ false
plus = refl

eleven_digits : is_value (Whole (pos 0) (pos 31)) (codes "00000000031") ≡ false
eleven_digits = refl

above : is_value (Whole (pos 0) (pos 31)) (codes "32") ≡ false
above = refl

-- numerals stand between blanks; one has none, three may have them at the ends
spaced : is_value Vector (codes " 1\t-2 .5e1\n") ≡ true
spaced = refl

spaced_numeral : is_value Numeral (codes " 1") ≡ false
spaced_numeral = refl

out_of_range : is_value Numeral (codes "1e10") ≡ false
out_of_range = refl

two : is_value Vector (codes "1 2") ≡ false
two = refl

none : is_value Vectors [] ≡ true
none = refl

four : is_value Vectors (codes "1 2 3 4") ≡ false
four = refl

flag : is_value Flag (codes "2") ≡ false
flag = refl

word : is_value (Choice (codes "x" ∷ codes "y" ∷ [])) (codes "z") ≡ false
word = refl

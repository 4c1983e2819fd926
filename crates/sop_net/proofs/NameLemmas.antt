-- Places of names, in a list of nodes and in the list of their names.
use Rattle.std.proofs.Common.{◌≡◌, ◌∙◌, sym, ap, refl, ℕ, ◌+◌, ◌<◌, List, [], ◌∷◌, false, not, cond, length, get_or}
use Rattle.std.specs.Prelude.{None, Some, map, position, bytes_eq, nat_lt, option_map}
use Rattle.std.specs.List.{position_or_len, list_any}
use Rattle.std.specs.Cmp.Lexicographic.{nat_list_eq_equiv}
use Rattle.std.proofs.lemmas.Option.{slice_get_read}
use Rattle.sop_net.specs.declared.node.Node.{Node}
use Rattle.sop_net.specs.Network.{place_named, number_named}
use Rattle.sop_net.proofs.Searches.{find-position, find-no_position, past-all, none-passes, first-map, length-map, any-map}

first-name : (nodes : List Node) (name : List ℕ) → position_or_len (bytes_eq name) (map (λ n. n.name) nodes) ≡ position_or_len (λ n. bytes_eq n.name name) nodes
first-name [] name = refl
first-name (n ∷ nodes) name =
    ap (λ same. cond (not same) (1 + position_or_len (bytes_eq name) (map (λ m. m.name) nodes)) 0) (nat_list_eq_equiv.symm name n.name)
    ∙ ap (λ k. cond (not (bytes_eq n.name name)) (1 + k) 0) (first-name nodes name)

-- the place of a name among the keys of the nodes' names
pub place-of-key : {A : Type 0} (keys : List A) (text : A → List ℕ) (nodes : List Node) (name : List ℕ) → map text keys ≡ map (λ n. n.name) nodes → position (λ k. bytes_eq name (text k)) keys ≡ place_named nodes name
place-of-key keys text nodes name same =
    let first : position_or_len (λ k. bytes_eq name (text k)) keys ≡ position_or_len (λ n. bytes_eq n.name name) nodes =
    first-map text (bytes_eq name) keys ∙ ap (position_or_len (bytes_eq name)) same ∙ first-name nodes name in
    let long : length keys ≡ length nodes = sym (length-map text keys) ∙ ap length same ∙ length-map (λ (n : Node). n.name) nodes in
    ap (λ k. cond (nat_lt k (length keys)) (Some k) None) first ∙ ap (λ m. cond (nat_lt (position_or_len (λ n. bytes_eq n.name name) nodes) m) (Some (position_or_len (λ n. bytes_eq n.name name) nodes)) None) long

-- the number under a name is that of the node at its place
pub number-at : (nodes : List Node) (name : List ℕ) (i : ℕ) (n : Node) → place_named nodes name ≡ Some i → i < length nodes → n ≡ get_or nodes i n → number_named nodes name ≡ Some n.number
number-at nodes name i n e h read =
    ap (option_map (λ m. m.number)) (find-position (λ m. bytes_eq m.name name) nodes i e ∙ slice_get_read nodes (length nodes) i n refl h read)

pub no-number : (nodes : List Node) (name : List ℕ) → place_named nodes name ≡ None → number_named nodes name ≡ None
no-number nodes name e = ap (option_map (λ m. m.number)) (find-no_position (λ m. bytes_eq m.name name) nodes e)

-- a free name is none of the names
pub free-name : (nodes : List Node) (name : List ℕ) → place_named nodes name ≡ None → list_any (λ t. bytes_eq t name) (map (λ n. n.name) nodes) ≡ false
free-name nodes name e =
    sym (any-map (λ (n : Node). n.name) (λ t. bytes_eq t name) nodes)
    ∙ none-passes (λ n. bytes_eq n.name name) nodes (past-all (λ n. bytes_eq n.name name) nodes e)

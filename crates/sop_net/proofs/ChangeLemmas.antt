-- A node that is changed at its place, with its number and its name, keeps what the network keeps.
use Rattle.std.proofs.Common.{◌≡◌, ◌∙◌, sym, ap, subst, refl, ℕ, zero, suc, ◌<◌, List, [], ◌∷◌, true, false, ◌==◌, cond, length, get_or, set, length-set}
use Rattle.std.specs.Prelude.{None, Some, map, Contains, is_some}
use Rattle.std.proofs.lemmas.List.Elements.{All-set}
use Rattle.std.proofs.lemmas.Option.{slice_get_read}
use Rattle.sop_net.specs.declared.node.Node.{Node}
use Rattle.sop_net.specs.Network.{Network, node_of, place_named, IsLive, wired, wires_of, sources, IsNodeOf}
use Rattle.sop_net.specs.Order.{IsOrder, IsKept}
use Rattle.sop_net.specs.Steps.{Step, on_node, on_node_at, on_named}
use Rattle.sop_net.proofs.AddLemmas.{ordered-same}
use Rattle.sop_net.proofs.OrderLemmas.{order-no_cycle}

-- two reads of one place
pub same-read : {A : Type 0} (xs : List A) (i : ℕ) (x y : A) → i < length xs → x ≡ get_or xs i x → y ≡ get_or xs i y → x ≡ y
same-read xs i x y within a b =
    let first = slice_get_read xs (length xs) i x refl within a in
    let second = slice_get_read xs (length xs) i y refl within b in
    cc

-- numbers stay at their places
pub number-set : (nodes : List Node) (at i : ℕ) (m old d : Node) → m.number ≡ (get_or nodes at old).number → (get_or (set nodes at m) i d).number ≡ (get_or nodes i d).number
number-set [] at i m old d e = refl
number-set (n ∷ nodes) zero zero m old d e = e
number-set (n ∷ nodes) zero (suc i) m old d e = refl
number-set (n ∷ nodes) (suc at) zero m old d e = refl
number-set (n ∷ nodes) (suc at) (suc i) m old d e = number-set nodes at i m old d e

names-set : (nodes : List Node) (at : ℕ) (m old : Node) → m.name ≡ (get_or nodes at old).name → map (λ n. n.name) (set nodes at m) ≡ map (λ n. n.name) nodes
names-set [] at m old e = refl
names-set (n ∷ nodes) zero m old e = ap (λ name. name ∷ map (λ k. k.name) nodes) e
names-set (n ∷ nodes) (suc at) m old e = ap (λ names. n.name ∷ names) (names-set nodes at m old e)

pub live-set : (nodes : List Node) (at y : ℕ) (m old : Node) → m.number ≡ (get_or nodes at old).number → is_some (node_of (set nodes at m) y) ≡ is_some (node_of nodes y)
live-set [] at y m old e = refl
live-set (n ∷ nodes) zero y m old e =
    ap (λ k. is_some (cond (k == y) (Some m) (node_of nodes y))) e
    ∙ (elim (n.number == y) as (λ b. is_some (cond b (Some m) (node_of nodes y)) ≡ is_some (cond b (Some n) (node_of nodes y))) [ true ↦ refl | false ↦ refl ])
live-set (n ∷ nodes) (suc at) y m old e =
    elim (n.number == y) as (λ b. is_some (cond b (Some n) (node_of (set nodes at m) y)) ≡ is_some (cond b (Some n) (node_of nodes y))) [ true ↦ refl | false ↦ live-set nodes at y m old e ]

-- what the network keeps, but for wires and order
pub kept-set : (nodes : List Node) (names : List (List ℕ)) (order now : List ℕ) (added at : ℕ) (m old : Node)
    → IsKept nodes names order added → m.number ≡ (get_or nodes at old).number → m.name ≡ (get_or nodes at old).name → IsNodeOf m
    → IsOrder (sources (set nodes at m)) (set nodes at m) now → ((x y : ℕ) → Contains (sources (set nodes at m) x) y → IsLive nodes y)
    → IsKept (set nodes at m) names now added
kept-set nodes names order now added at m old kept number name is_node is_order live =
    let net = kept.network in
    record {
      network = record {
        few = rw length-set net.few;
        nodes = All-set IsNodeOf nodes at m is_node net.nodes;
        names = rw (names-set nodes at m old name) net.names;
        rising = λ i j d less within.
            let low = number-set nodes at i m old d number in
            let high = number-set nodes at j m old d number in
            rw (low, high) (net.rising i j d less (rw length-set at within));
        below = λ k d within. rw (number-set nodes at k m old d number) (net.below k d (rw length-set at within));
        live = λ x y c. live-set nodes at y m old number ∙ live x y c;
        no_cycle = order-no_cycle (set nodes at m) now is_order;
      };
      same_names = kept.same_names ∙ sym (names-set nodes at m old name);
      is_order = is_order;
    }

-- the same wires
sources-set_same : (nodes : List Node) (at y : ℕ) (m old : Node) → m.number ≡ (get_or nodes at old).number → m.wires ≡ (get_or nodes at old).wires → sources (set nodes at m) y ≡ sources nodes y
sources-set_same [] at y m old e w = refl
sources-set_same (n ∷ nodes) zero y m old e w =
    ap (λ k. wired (wires_of (cond (k == y) (Some m) (node_of nodes y)))) e
    ∙ (elim (n.number == y) as (λ b. wired (wires_of (cond b (Some m) (node_of nodes y))) ≡ wired (wires_of (cond b (Some n) (node_of nodes y)))) [ true ↦ ap wired w | false ↦ refl ])
sources-set_same (n ∷ nodes) (suc at) y m old e w =
    elim (n.number == y) as (λ b. wired (wires_of (cond b (Some n) (node_of (set nodes at m) y))) ≡ wired (wires_of (cond b (Some n) (node_of nodes y)))) [ true ↦ refl | false ↦ sources-set_same nodes at y m old e w ]

pub kept-rewired_not : (nodes : List Node) (names : List (List ℕ)) (order : List ℕ) (added at : ℕ) (m old : Node)
    → IsKept nodes names order added → m.number ≡ (get_or nodes at old).number → m.name ≡ (get_or nodes at old).name → m.wires ≡ (get_or nodes at old).wires → IsNodeOf m
    → IsKept (set nodes at m) names order added
kept-rewired_not nodes names order added at m old kept number name wires is_node =
    let o = kept.is_order in
    kept-set nodes names order order added at m old kept number name is_node
    (record {
      ordered = ordered-same (sources nodes) (sources (set nodes at m)) [] order (λ y. sources-set_same nodes at y m old number wires) o.ordered;
      complete = λ x there. o.complete x (sym (live-set nodes at x m old number) ∙ there);
      live = λ x i. live-set nodes at x m old number ∙ o.live x i;
      short = rw length-set o.short;
    })
    (λ x y c. kept.network.live x y (subst (λ l. Contains l y) (sources-set_same nodes at x m old number wires) c))

-- a step on the node of a name, where it stands at a place
pub on_named-at : (net : Network) (name : List ℕ) (at : ℕ) (n : Node) (go : ℕ → Node → Step) → place_named net.nodes name ≡ Some at → at < length net.nodes → n ≡ get_or net.nodes at n → on_named net name go ≡ go at n
on_named-at net name at n go placed within read =
    ap (λ place. on_node_at net place go) placed ∙ ap (λ found. on_node net at found go) (slice_get_read net.nodes (length net.nodes) at n refl within read)

pub on_named-none : (net : Network) (name : List ℕ) (go : ℕ → Node → Step) → place_named net.nodes name ≡ None → on_named net name go ≡ on_node_at net None go
on_named-none net name go none = ap (λ place. on_node_at net place go) none

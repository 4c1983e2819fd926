-- A node that is added keeps what the network keeps.
use Rattle.std.proofs.Common.{◌≡◌, ◌∙◌, sym, ap, subst, refl, ℕ, ◌+◌, ◌<◌, ◌≤◌, ◌⊎◌, inl, inr, List, [], ◌∷◌, ◌++◌, true, false, not, ◌||◌, ◌&&◌, ◌==◌, cond, IsTrue, length, arith, eq-eqb, length-append}
use Rattle.std.specs.Prelude.{None, Some, map, Contains, bytes_eq, is_some}
use Rattle.std.specs.List.{list_any}
use Rattle.std.specs.Cmp.Lexicographic.{nat_list_eq_equiv}
use Rattle.std.proofs.lemmas.Bool.{eqb-true, and_parts, or_parts, not-true}
use Rattle.std.proofs.lemmas.List.{length-replicate}
use Rattle.std.proofs.lemmas.List.Elements.{All-push, All-weaker}
use Rattle.std.proofs.lemmas.List.Folds.{list_any-append}
use Rattle.std.proofs.lemmas.List.Quantifiers.{all_pairs_push}
use Rattle.sop_model.specs.Names.{is_name, are_distinct}
use Rattle.sop_net.specs.declared.node_type.NodeType.{NodeType}
use Rattle.sop_net.specs.declared.node.Node.{Node}
use Rattle.sop_net.specs.NodeTable.{inputs_of}
use Rattle.sop_net.specs.Limits.{most_nodes}
use Rattle.sop_net.specs.Network.{node_of, place_named, IsLive, new_node, wired, wires_of, sources, IsNodeOf}
use Rattle.sop_net.specs.Order.{In, IsOrdered, IsOrder, IsKept}
use Rattle.sop_net.proofs.DefaultLemmas.{defaults-taken, wired-none}
use Rattle.sop_net.proofs.Membership.{in-front, in-behind, in-split}
use Rattle.sop_net.proofs.OrderLemmas.{some-or, order-no_cycle}
use Rattle.sop_net.proofs.NameLemmas.{free-name}
use Rattle.sop_net.proofs.Searches.{any-map, map-push}

-- wires and nodes after one more node without a wire
sources-added : (nodes : List Node) (n : Node) (y : ℕ) → wired n.wires ≡ [] → sources (nodes ++ n ∷ []) y ≡ sources nodes y
sources-added [] n y e = elim (n.number == y) as (λ b. wired (wires_of (cond b (Some n) None)) ≡ []) [ true ↦ e | false ↦ refl ]
sources-added (m ∷ nodes) n y e =
    elim (m.number == y) as (λ b. wired (wires_of (cond b (Some m) (node_of (nodes ++ n ∷ []) y))) ≡ wired (wires_of (cond b (Some m) (node_of nodes y)))) [ true ↦ refl | false ↦ sources-added nodes n y e ]

live-added : (nodes : List Node) (n : Node) (y : ℕ) → IsLive (nodes ++ n ∷ []) y → (n.number ≡ y) ⊎ IsLive nodes y
live-added [] n y =
    (elim (n.number == y) as (λ b. (n.number == y) ≡ b → is_some (cond b (Some n) None) ≡ true → (n.number ≡ y) ⊎ IsLive [] y) [ true ↦ λ h t. inl (eqb-true n.number y h) | false ↦ λ h t. absurd (cc) ]) refl
live-added (m ∷ nodes) n y =
    elim (m.number == y) as (λ b. is_some (cond b (Some m) (node_of (nodes ++ n ∷ []) y)) ≡ true → (n.number ≡ y) ⊎ (is_some (cond b (Some m) (node_of nodes y)) ≡ true)) [ true ↦ λ t. inr refl | false ↦ live-added nodes n y ]

live-more : (nodes : List Node) (n : Node) (y : ℕ) → IsLive nodes y → IsLive (nodes ++ n ∷ []) y
live-more [] n y = λ t. absurd (cc)
live-more (m ∷ nodes) n y =
    elim (m.number == y) as (λ b. is_some (cond b (Some m) (node_of nodes y)) ≡ true → is_some (cond b (Some m) (node_of (nodes ++ n ∷ []) y)) ≡ true) [ true ↦ λ t. refl | false ↦ live-more nodes n y ]

live-last : (nodes : List Node) (n : Node) → IsLive (nodes ++ n ∷ []) n.number
live-last [] n = let same : (n.number == n.number) ≡ true = eq-eqb n.number n.number refl in rw same refl
live-last (m ∷ nodes) n =
    elim (m.number == n.number) as (λ b. is_some (cond b (Some m) (node_of (nodes ++ n ∷ []) n.number)) ≡ true) [ true ↦ refl | false ↦ live-last nodes n ]

-- an order of the same wires
pub ordered-same : (f g : ℕ → List ℕ) (before order : List ℕ) → ((y : ℕ) → g y ≡ f y) → IsOrdered f before order → IsOrdered g before order
ordered-same f g before [] e o = tt
ordered-same f g before (x ∷ order) e o = ((λ y i. o.0 y (subst (λ l. In l y) (e x) i)), ordered-same f g (x ∷ before) order e o.1)

-- what a node of an order takes from is in the order
pub ordered-in : (f : ℕ → List ℕ) (before order : List ℕ) (x y : ℕ) → IsOrdered f before order → In order x → In (f x) y → In before y ⊎ In order y
ordered-in f before [] x y o i j = absurd i
ordered-in f before (z ∷ order) x y o (inl e) j = inl (o.0 y (subst (λ v. In (f v) y) (sym e) j))
ordered-in f before (z ∷ order) x y o (inr i) j = elim (ordered-in f (z ∷ before) order x y o.1 i j) [
  | inl old ↦ elim old [ inl e ↦ inr (inl e) | inr more ↦ inl more ]
  | inr later ↦ inr (inr later)
]

ordered-push : (f : ℕ → List ℕ) (before order : List ℕ) (x : ℕ) → IsOrdered f before order → ((y : ℕ) → In (f x) y → In before y ⊎ In order y) → IsOrdered f before (order ++ x ∷ [])
ordered-push f before [] x o h = ((λ y i. elim (h y i) [ inl b ↦ b | inr none ↦ absurd none ]), tt)
ordered-push f before (z ∷ order) x o h = (
  o.0,
  ordered-push f (z ∷ before) order x o.1 (λ y i. elim (h y i) [
    | inl b ↦ inl (inr b)
    | inr r ↦ elim r [ inl e ↦ inl (inl e) | inr later ↦ inr later ]
  ]),
)

order-added : (nodes : List Node) (order : List ℕ) (n : Node) → IsOrder (sources nodes) nodes order → wired n.wires ≡ [] → IsOrder (sources (nodes ++ n ∷ [])) (nodes ++ n ∷ []) (order ++ n.number ∷ [])
order-added nodes order n o e = record {
  ordered = ordered-push (sources (nodes ++ n ∷ [])) [] order n.number (ordered-same (sources nodes) (sources (nodes ++ n ∷ [])) [] order (λ y. sources-added nodes n y e) o.ordered)
      (λ y i. let j : In (sources nodes n.number) y = subst (λ l. In l y) (sources-added nodes n n.number e) i in
      ordered-in (sources nodes) [] order n.number y o.ordered (o.complete n.number (some-or (node_of nodes n.number) y j)) j);
  complete = λ y live. elim (live-added nodes n y live) [ inl q ↦ in-behind order (n.number ∷ []) y (inl q) | inr old ↦ in-front order (n.number ∷ []) y (o.complete y old) ];
  live = λ y i. elim (in-split order (n.number ∷ []) y i) [
    | inl old ↦ live-more nodes n y (o.live y old)
    | inr new ↦ elim new [ inl q ↦ subst (λ v. IsLive (nodes ++ n ∷ []) v) q (live-last nodes n) | inr none ↦ absurd none ]
  ];
  short = let le : length order ≤ length nodes = o.short in rw (length-append order (n.number ∷ []), length-append nodes (n ∷ [])) (omega arith);
}

-- names stay distinct
distinct-push : (names : List (List ℕ)) (name : List ℕ) → IsTrue (are_distinct names) → list_any (λ t. bytes_eq t name) names ≡ false → IsTrue (are_distinct (names ++ name ∷ []))
distinct-push [] name d h = refl
distinct-push (t ∷ names) name d h =
    let here = or_parts (bytes_eq t name) (list_any (λ s. bytes_eq s name) names) h in
    let old = and_parts (not (list_any (bytes_eq t) names)) (are_distinct names) d in
    let any : list_any (bytes_eq t) (names ++ name ∷ []) ≡ false =
    list_any-append (bytes_eq t) names (name ∷ []) ∙ ap (λ b. b || (bytes_eq t name || false)) (not-true (list_any (bytes_eq t) names) old.0) ∙ ap (λ b. b || false) here.0 in
    ap (λ b. not b && are_distinct (names ++ name ∷ [])) any ∙ distinct-push names name old.1 here.1

any-flip : (name : List ℕ) (names : List (List ℕ)) → list_any (bytes_eq name) names ≡ list_any (λ t. bytes_eq t name) names
any-flip name [] = refl
any-flip name (t ∷ names) = ap (λ b. b || list_any (bytes_eq name) names) (nat_list_eq_equiv.symm name t) ∙ ap (λ b. bytes_eq t name || b) (any-flip name names)

-- the key of a free name is put behind the others
pub keys-added : {A : Type 0} (keys new : List A) (text : A → List ℕ) (nodes : List Node) (name : List ℕ) (key : A)
    → map text keys ≡ map (λ n. n.name) nodes → place_named nodes name ≡ None → text key ≡ name
    → new ≡ cond (list_any (λ k. bytes_eq (text key) (text k)) keys) keys (keys ++ key ∷ [])
    → map text new ≡ map text keys ++ name ∷ []
keys-added keys new text nodes name key same free is put =
    let fresh : list_any (λ k. bytes_eq (text key) (text k)) keys ≡ false =
    any-map text (bytes_eq (text key)) keys ∙ ap (list_any (bytes_eq (text key))) same ∙ ap (λ t. list_any (bytes_eq t) (map (λ (n : Node). n.name) nodes)) is
    ∙ any-flip name (map (λ (n : Node). n.name) nodes) ∙ free-name nodes name free in
    ap (map text) (put ∙ ap (λ b. cond b keys (keys ++ key ∷ [])) fresh) ∙ map-push text keys key ∙ ap (λ t. map text keys ++ t ∷ []) is

pub kept-added : (nodes : List Node) (names : List (List ℕ)) (order : List ℕ) (added : ℕ) (node_type : NodeType) (name : List ℕ)
    → IsKept nodes names order added → IsTrue (is_name name) → place_named nodes name ≡ None → length nodes < most_nodes
    → IsKept (nodes ++ new_node added node_type name ∷ []) (names ++ name ∷ []) (order ++ added ∷ []) (added + 1)
kept-added nodes names order added node_type name kept named free room =
    let n : Node = new_node added node_type name in
    let bare : wired n.wires ≡ [] = wired-none (inputs_of node_type) in
    let is_order : IsOrder (sources (nodes ++ n ∷ [])) (nodes ++ n ∷ []) (order ++ added ∷ []) = order-added nodes order n kept.is_order bare in
    let net = kept.network in
    record {
      network = record {
        few = rw length-append (omega arith);
        nodes = All-push IsNodeOf nodes n net.nodes (record { name = named; parms = defaults-taken node_type; inputs = length-replicate (inputs_of node_type) None });
        names = rw map-push (distinct-push (map (λ m. m.name) nodes) name net.names (free-name nodes name free));
        rising = all_pairs_push (λ a b. a.number < b.number) nodes n net.rising (λ k d h. net.below k d h);
        below = All-push (λ m. m.number < added + 1) nodes n (All-weaker (λ m. m.number < added) (λ m. m.number < added + 1) (λ m less. omega arith) nodes net.below) (omega arith);
        live = λ x y c. live-more nodes n y (net.live x y (subst (λ l. Contains l y) (sources-added nodes n x bare) c));
        no_cycle = order-no_cycle (nodes ++ n ∷ []) (order ++ added ∷ []) is_order;
      };
      same_names = ap (λ l. l ++ name ∷ []) kept.same_names ∙ sym (map-push (λ (m : Node). m.name) nodes n);
      is_order = is_order;
    }

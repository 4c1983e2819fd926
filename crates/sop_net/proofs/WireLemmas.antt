-- A wire more: the order that it asks for, and what the network keeps.
use Rattle.std.proofs.Common.{◌≡◌, ◌∙◌, sym, ap, subst, refl, ℕ, zero, suc, ◌+◌, ◌<◌, ◌≤◌, ◌⊎◌, inl, inr, List, [], ◌∷◌, ◌++◌, Bool, true, false, not, ◌||◌, ◌==◌, cond, length, get_or, set, arith, length-append, length-set}
use Rattle.std.specs.Prelude.{Option, None, Some, Contains, filter}
use Rattle.std.specs.List.{list_any}
use Rattle.std.proofs.lemmas.Bool.{eqb-true, eqb-false, ne_eqb, or_parts}
use Rattle.sop_net.specs.declared.node.Node.{Node}
use Rattle.sop_net.specs.Graph.{searched}
use Rattle.sop_net.specs.Network.{node_of, IsLive, IsNodeOf, wired, wires_of, sources}
use Rattle.sop_net.specs.Order.{In, IsOrdered, IsOrder, IsKept, with_source, comes_first}
use Rattle.sop_net.proofs.Membership.{contains-in, in-front, in-behind, in-split, in-filter, filter-in, any-in, any-same, in-contains}
use Rattle.sop_net.proofs.GraphLemmas.{searched-step}
use Rattle.sop_net.proofs.OrderLemmas.{order-within}
use Rattle.sop_net.proofs.ChangeLemmas.{same-read, live-set, kept-set}

-- fewer wires keep an order
pub ordered-fewer : (f g : ℕ → List ℕ) (before order : List ℕ) → ((x y : ℕ) → In (g x) y → In (f x) y) → IsOrdered f before order → IsOrdered g before order
ordered-fewer f g before [] fewer o = tt
ordered-fewer f g before (x ∷ order) fewer o = ((λ y i. o.0 y (fewer x y i)), ordered-fewer f g (x ∷ before) order fewer o.1)

-- these before, with an order's nodes put before in turn
onto : List ℕ → List ℕ → List ℕ
onto before [] = before
onto before (x ∷ order) = onto (x ∷ before) order

onto-before : (before order : List ℕ) (y : ℕ) → In before y → In (onto before order) y
unfolding onto
onto-before before [] y i = i
onto-before before (x ∷ order) y i = onto-before (x ∷ before) order y (inr i)

onto-order : (before order : List ℕ) (y : ℕ) → In order y → In (onto before order) y
unfolding onto
onto-order before [] y i = absurd i
onto-order before (x ∷ order) y (inl e) = onto-before (x ∷ before) order y (inl e)
onto-order before (x ∷ order) y (inr i) = onto-order (x ∷ before) order y i

ordered-append : (g : ℕ → List ℕ) (before xs ys : List ℕ) → IsOrdered g before xs → IsOrdered g (onto before xs) ys → IsOrdered g before (xs ++ ys)
unfolding onto
ordered-append g before [] ys a b = b
ordered-append g before (x ∷ xs) ys a b = (a.0, ordered-append g (x ∷ before) xs ys a.1 b)

any-none : (p : ℕ → Bool) (xs : List ℕ) → ((m : ℕ) → In xs m → p m ≡ false) → list_any p xs ≡ false
any-none p [] h = refl
any-none p (x ∷ xs) h = ap (λ b. b || list_any p xs) (h x (inl refl)) ∙ any-none p xs (λ m i. h m (inr i))

-- `p` says which nodes are `node` or downstream of it
module _ (f : ℕ → List ℕ) (p : ℕ → Bool) (node source : ℕ) where
  -- what a node that isn't downstream takes from isn't downstream either
  closed : (x y : ℕ) → p x ≡ ((x == node) || list_any p (f x)) → p x ≡ false → In (f x) y → p y ≡ false
  closed x y step h i =
      let none : list_any p (f x) ≡ false = (or_parts (x == node) (list_any p (f x)) (sym step ∙ h)).1 in
      (elim (p y) as (λ b. p y ≡ b → b ≡ false) [ true ↦ λ e. (let some : list_any p (f x) ≡ true = any-in p (f x) y i e in absurd (cc)) | false ↦ λ e. refl ]) refl

  -- a node that isn't downstream isn't `node`, so it takes from what it took from
  apart : (x y : ℕ) → p x ≡ ((x == node) || list_any p (f x)) → p x ≡ false → In (with_source f node source x) y → In (f x) y
  apart x y step h = let other : (x == node) ≡ false = (or_parts (x == node) (list_any p (f x)) (sym step ∙ h)).0 in rw other (λ i. i)

  more : (x y : ℕ) → In (with_source f node source x) y → (y ≡ source) ⊎ In (f x) y
  more x y = elim (x == node) as (λ b. In (cond b (source ∷ f x) (f x)) y → (y ≡ source) ⊎ In (f x) y) [
    | true ↦ λ i. elim i [ inl e ↦ inl (sym e) | inr j ↦ inr j ]
    | false ↦ λ i. inr i
  ]

  -- those that aren't downstream keep their order
  front : (before b order : List ℕ) → IsOrdered f before order → ((x : ℕ) → In order x → p x ≡ ((x == node) || list_any p (f x)))
      → ((y : ℕ) → In before y → p y ≡ false → In b y) → IsOrdered (with_source f node source) b (filter (λ x. not (p x)) order)
  front before b [] o step rel = tt
  front before b (x ∷ order) o step rel =
      (elim (p x) as (λ v. p x ≡ v → IsOrdered (with_source f node source) b (cond (not v) (x ∷ filter (λ w. not (p w)) order) (filter (λ w. not (p w)) order))) [
        | true ↦ λ h. front (x ∷ before) b order o.1 (λ y i. step y (inr i))
            (λ y i free. elim i [ inl e ↦ (let marked : p y ≡ true = subst (λ v. p v ≡ true) e h in absurd (cc)) | inr j ↦ rel y j free ])
        | false ↦ λ h. (
          (λ y i. let j : In (f x) y = apart x y (step x (inl refl)) h i in rel y (o.0 y j) (closed x y (step x (inl refl)) h j)),
          front (x ∷ before) (x ∷ b) order o.1 (λ y i. step y (inr i))
              (λ y i free. elim i [ inl e ↦ inl e | inr j ↦ inr (rel y j free) ]),
        )
      ]) refl

  -- and the others come behind them, `source` among those before
  back : (before b order : List ℕ) → IsOrdered f before order → ((y : ℕ) → In before y → In b y) → ((y : ℕ) → In order y → p y ≡ false → In b y) → In b source
      → IsOrdered (with_source f node source) b (filter p order)
  back before b [] o rel free has = tt
  back before b (x ∷ order) o rel free has =
      (elim (p x) as (λ v. p x ≡ v → IsOrdered (with_source f node source) b (cond v (x ∷ filter p order) (filter p order))) [
        | true ↦ λ h. (
          (λ y i. elim (more x y i) [ inl e ↦ subst (λ v. In b v) (sym e) has | inr j ↦ rel y (o.0 y j) ]),
          back (x ∷ before) (x ∷ b) order o.1 (λ y i. elim i [ inl e ↦ inl e | inr j ↦ inr (rel y j) ]) (λ y i h. inr (free y (inr i) h)) (inr has),
        )
        | false ↦ λ h. back (x ∷ before) b order o.1
            (λ y i. elim i [ inl e ↦ free y (inl e) (subst (λ v. p v ≡ false) e h) | inr j ↦ rel y j ])
            (λ y i h. free y (inr i) h) has
      ]) refl

  reordered : (order : List ℕ) → IsOrdered f [] order → ((x : ℕ) → In order x → p x ≡ ((x == node) || list_any p (f x))) → In order source → p source ≡ false
      → IsOrdered (with_source f node source) [] (filter (λ x. not (p x)) order ++ filter p order)
  reordered order o step there free =
      let unmarked : (y : ℕ) → In order y → p y ≡ false → In (onto [] (filter (λ x. not (p x)) order)) y =
      λ y i h. onto-order [] (filter (λ x. not (p x)) order) y (in-filter (λ x. not (p x)) order y i (ap not h)) in
      ordered-append (with_source f node source) [] (filter (λ x. not (p x)) order) (filter p order)
      (front [] [] order o step (λ y none h. absurd none))
      (back [] (onto [] (filter (λ x. not (p x)) order)) order o (λ y none. absurd none) unmarked (unmarked source there free))

  -- the fast way: `source` stands before `node` already
  admit-behind : (before order : List ℕ) → IsOrdered f before order → In before source → IsOrdered (with_source f node source) before order
  admit-behind before [] o has = tt
  admit-behind before (x ∷ order) o has =
      ((λ y i. elim (more x y i) [ inl e ↦ subst (λ v. In before v) (sym e) has | inr j ↦ o.0 y j ]), admit-behind (x ∷ before) order o.1 (inr has))

  admits : (before order : List ℕ) → IsOrdered f before order → comes_first source node order ≡ true → IsOrdered (with_source f node source) before order
  admits before [] o first = absurd (cc)
  admits before (x ∷ order) o first =
      (elim (x == node) as (λ b. (x == node) ≡ b → cond b false (cond (x == source) true (comes_first source node order)) ≡ true → IsOrdered (with_source f node source) before (x ∷ order)) [
        | true ↦ λ e first. absurd (cc)
        | false ↦ λ e.
            let here : (y : ℕ) → In (with_source f node source x) y → In before y = λ y i. o.0 y (let j : In (cond (x == node) (source ∷ f x) (f x)) y = i in rw e at j) in
            (elim (x == source) as (λ b. (x == source) ≡ b → cond b true (comes_first source node order) ≡ true → IsOrdered (with_source f node source) before (x ∷ order)) [
              | true ↦ λ is first. (here, admit-behind (x ∷ before) order o.1 (inl (eqb-true x source is)))
              | false ↦ λ is first. (here, admits (x ∷ before) order o.1 first)
            ]) refl
      ]) refl first

  first-free : (before order : List ℕ) → IsOrdered f before order → ((x : ℕ) → In order x → p x ≡ ((x == node) || list_any p (f x)))
      → ((y : ℕ) → In before y → p y ≡ false) → comes_first source node order ≡ true → p source ≡ false
  first-free before [] o step rel first = absurd (cc)
  first-free before (x ∷ order) o step rel first =
      (elim (x == node) as (λ b. (x == node) ≡ b → cond b false (cond (x == source) true (comes_first source node order)) ≡ true → p source ≡ false) [
        | true ↦ λ e first. absurd (cc)
        | false ↦ λ e.
            let none : list_any p (f x) ≡ false = any-none p (f x) (λ m i. rel m (o.0 m i)) in
            let here : p x ≡ false = step x (inl refl) ∙ ap (λ b. b || list_any p (f x)) e ∙ none in
            (elim (x == source) as (λ b. (x == source) ≡ b → cond b true (comes_first source node order) ≡ true → p source ≡ false) [
              | true ↦ λ is first. subst (λ v. p v ≡ false) (eqb-true x source is) here
              | false ↦ λ is first. first-free (x ∷ before) order o.1 (λ y i. step y (inr i))
                  (λ y i. elim i [ inl q ↦ subst (λ v. p v ≡ false) q here | inr j ↦ rel y j ]) first
            ]) refl
      ]) refl first

halves : (p : ℕ → Bool) (xs : List ℕ) → length (filter (λ x. not (p x)) xs) + length (filter p xs) ≡ length xs
halves p [] = refl
halves p (x ∷ xs) =
    let h : length (filter (λ v. not (p v)) xs) + length (filter p xs) ≡ length xs = halves p xs in
    elim (p x) as (λ b. length (cond (not b) (x ∷ filter (λ v. not (p v)) xs) (filter (λ v. not (p v)) xs)) + length (cond b (x ∷ filter p xs) (filter p xs)) ≡ suc (length xs)) [ true ↦ omega arith | false ↦ omega arith ]

in-both : (p : ℕ → Bool) (order : List ℕ) (y : ℕ) → In order y → In (filter (λ x. not (p x)) order ++ filter p order) y
in-both p order y i =
    (elim (p y) as (λ v. p y ≡ v → In (filter (λ w. not (p w)) order ++ filter p order) y) [
      | true ↦ λ r. in-behind (filter (λ w. not (p w)) order) (filter p order) y (in-filter p order y i r)
      | false ↦ λ r. in-front (filter (λ w. not (p w)) order) (filter p order) y (in-filter (λ w. not (p w)) order y i (ap not r))
    ]) refl

-- flags that are those of the nodes downstream
module _ (nodes : List Node) (order : List ℕ) (node source : ℕ) (o : IsOrder (sources nodes) nodes order) (wires : (x y : ℕ) → Contains (sources nodes x) y → IsLive nodes y) where
  module _ (p : ℕ → Bool) (flags : (x : ℕ) → IsLive nodes x → p x ≡ searched (length nodes) (sources nodes) x node) where
    flag-step : (x : ℕ) → In order x → p x ≡ ((x == node) || list_any p (sources nodes x))
    flag-step x i =
        let live = o.live x i in
        flags x live ∙ searched-step (sources nodes) (length nodes) x node (order-within nodes order o x live)
        ∙ ap (λ b. (x == node) || b) (any-same (λ m. searched (length nodes) (sources nodes) m node) p (sources nodes x) (λ m j. sym (flags m (wires x m (in-contains (sources nodes x) m j)))))

    pub order-reordered : IsLive nodes source → p source ≡ false → IsOrder (with_source (sources nodes) node source) nodes (filter (λ x. not (p x)) order ++ filter p order)
    order-reordered there free = record {
      ordered = reordered (sources nodes) p node source order o.ordered flag-step (o.complete source there) free;
      complete = λ x live. in-both p order x (o.complete x live);
      live = λ x i. elim (in-split (filter (λ v. not (p v)) order) (filter p order) x i) [ inl j ↦ o.live x (filter-in (λ v. not (p v)) order x j).0 | inr j ↦ o.live x (filter-in p order x j).0 ];
      short = let le : length order ≤ length nodes = o.short in rw length-append (omega (arith, halves p order));
    }

  pub order-admits : comes_first source node order ≡ true → IsOrder (with_source (sources nodes) node source) nodes order
  order-admits first = record {
    ordered = admits (sources nodes) (λ x. searched (length nodes) (sources nodes) x node) node source [] order o.ordered first;
    complete = o.complete;
    live = o.live;
    short = o.short;
  }

  pub order-free : comes_first source node order ≡ true → searched (length nodes) (sources nodes) source node ≡ false
  order-free first =
      first-free (sources nodes) (λ x. searched (length nodes) (sources nodes) x node) node source [] order o.ordered
      (flag-step (λ x. searched (length nodes) (sources nodes) x node) (λ x live. refl)) (λ y none. absurd none) first

-- a wire is set into the node at a place
in-set : (wires : List (Option ℕ)) (i source y : ℕ) → In (wired (set wires i (Some source))) y → (y ≡ source) ⊎ In (wired wires) y
in-set [] i source y j = absurd j
in-set (None ∷ wires) zero source y (inl e) = inl (sym e)
in-set (None ∷ wires) zero source y (inr j) = inr j
in-set (Some v ∷ wires) zero source y (inl e) = inl (sym e)
in-set (Some v ∷ wires) zero source y (inr j) = inr (inr j)
in-set (None ∷ wires) (suc i) source y j = in-set wires i source y j
in-set (Some v ∷ wires) (suc i) source y (inl e) = inr (inl e)
in-set (Some v ∷ wires) (suc i) source y (inr j) = elim (in-set wires i source y j) [ inl e ↦ inl e | inr k ↦ inr (inr k) ]

sources-set_more : (nodes : List Node) (at input source x y : ℕ) (m old : Node) → m.number ≡ (get_or nodes at old).number → m.wires ≡ set (get_or nodes at old).wires input (Some source)
    → In (sources (set nodes at m) x) y → (y ≡ source) ⊎ In (sources nodes x) y
sources-set_more [] at input source x y m old e w j = inr j
sources-set_more (n ∷ nodes) zero input source x y m old e w j =
    (elim (n.number == x) as (λ b. In (wired (wires_of (cond b (Some m) (node_of nodes x)))) y → (y ≡ source) ⊎ In (wired (wires_of (cond b (Some n) (node_of nodes x)))) y) [
      | true ↦ λ i. in-set n.wires input source y (subst (λ l. In (wired l) y) w i)
      | false ↦ λ i. inr i
    ]) (subst (λ k. In (wired (wires_of (cond (k == x) (Some m) (node_of nodes x)))) y) e j)
sources-set_more (n ∷ nodes) (suc at) input source x y m old e w j =
    (elim (n.number == x) as (λ b. In (wired (wires_of (cond b (Some n) (node_of (set nodes at m) x)))) y → (y ≡ source) ⊎ In (wired (wires_of (cond b (Some n) (node_of nodes x)))) y) [
      | true ↦ λ i. inr i
      | false ↦ λ i. sources-set_more nodes at input source x y m old e w i
    ]) j

sources-set_other : (nodes : List Node) (at x : ℕ) (m old : Node) → m.number ≡ (get_or nodes at old).number → (x == m.number) ≡ false → sources (set nodes at m) x ≡ sources nodes x
sources-set_other [] at x m old e d = refl
sources-set_other (n ∷ nodes) zero x m old e d =
    let apart : x ≡ m.number → ⊥ = eqb-false x m.number d in
    let new : (m.number == x) ≡ false = ne_eqb m.number x (λ q. apart (sym q)) in
    let was : (n.number == x) ≡ false = ne_eqb n.number x (λ q. apart (sym q ∙ sym e)) in
    ap (λ b. wired (wires_of (cond b (Some m) (node_of nodes x)))) new ∙ ap (λ b. wired (wires_of (cond b (Some n) (node_of nodes x)))) (sym was)
sources-set_other (n ∷ nodes) (suc at) x m old e d =
    elim (n.number == x) as (λ b. wired (wires_of (cond b (Some n) (node_of (set nodes at m) x))) ≡ wired (wires_of (cond b (Some n) (node_of nodes x)))) [ true ↦ refl | false ↦ sources-set_other nodes at x m old e d ]

module _ (nodes : List Node) (names : List (List ℕ)) (order : List ℕ) (added at : ℕ) (kept : IsKept nodes names order added) (within : at < length nodes) (m n : Node) (judged : m ≡ get_or nodes at m) (read : n ≡ get_or nodes at n) (input source : ℕ) where
  wire-fewer : (x y : ℕ) → In (sources (set nodes at (record n { wires = set n.wires input (Some source) })) x) y → In (with_source (sources nodes) n.number source x) y
  wire-fewer x y i =
      let now : Node = record n { wires = set n.wires input (Some source) } in
      let number : now.number ≡ (get_or nodes at n).number = ap (λ k. k.number) read in
      (elim (x == n.number) as (λ b. (x == n.number) ≡ b → In (cond b (source ∷ sources nodes x) (sources nodes x)) y) [
        | true ↦ λ e. elim (sources-set_more nodes at input source x y now n number (ap (λ k. set k.wires input (Some source)) read) i) [ inl q ↦ inl (sym q) | inr j ↦ inr j ]
        | false ↦ λ e. subst (λ l. In l y) (sources-set_other nodes at x now n number e) i
      ]) refl

  pub kept-wired : (now : List ℕ) → IsLive nodes source → IsOrder (with_source (sources nodes) m.number source) nodes now
      → IsKept (set nodes at (record n { wires = set n.wires input (Some source) })) names now added
  kept-wired now there order_now =
      let wired_node : Node = record n { wires = set n.wires input (Some source) } in
      let same : m ≡ n = same-read nodes at m n within judged read in
      let number : wired_node.number ≡ (get_or nodes at n).number = ap (λ k. k.number) read in
      let wires : wired_node.wires ≡ set (get_or nodes at n).wires input (Some source) = ap (λ k. set k.wires input (Some source)) read in
      let is_node : IsNodeOf n = subst IsNodeOf (sym read) (kept.network.nodes at n within) in
      let o : IsOrder (with_source (sources nodes) n.number source) nodes now = subst (λ k. IsOrder (with_source (sources nodes) k.number source) nodes now) same order_now in
      kept-set nodes names order now added at wired_node n kept number (ap (λ k. k.name) read)
      (record { name = is_node.name; parms = is_node.parms; inputs = length-set n.wires input (Some source) ∙ is_node.inputs })
      (record {
        ordered = ordered-fewer (with_source (sources nodes) n.number source) (sources (set nodes at wired_node)) [] now wire-fewer o.ordered;
        complete = λ x live. o.complete x (sym (live-set nodes at x wired_node n number) ∙ live);
        live = λ x i. live-set nodes at x wired_node n number ∙ o.live x i;
        short = rw length-set o.short;
      })
      (λ x y c. elim (sources-set_more nodes at input source x y wired_node n number wires (contains-in (sources (set nodes at wired_node) x) y c)) [
        | inl e ↦ subst (λ v. IsLive nodes v) (sym e) there
        | inr i ↦ kept.network.live x y (in-contains (sources nodes x) y i)
      ])

-- A node that is removed, with all wires that touch it: what the network keeps.
use Rattle.std.proofs.Common.{◌≡◌, ◌∙◌, sym, ap, subst, refl, ℕ, zero, suc, ◌<◌, ◌≤◌, inl, inr, List, [], ◌∷◌, Bool, true, false, not, ◌||◌, ◌&&◌, ◌==◌, cond, IsTrue, length, get_or, arith, eq-eqb}
use Rattle.std.specs.Prelude.{Option, None, Some, map, All, filter, is_some, remove, option_map, bytes_eq, take, drop}
use Rattle.std.specs.List.{list_any}
use Rattle.std.proofs.lemmas.Bool.{eqb-true, eqb-false, ne_eqb, and_parts, or_parts, not-true}
use Rattle.std.proofs.lemmas.List.Edits.{length-remove}
use Rattle.std.proofs.lemmas.List.Elements.{All-map, All-weaker, All-take, All-drop, All-append}
use Rattle.std.proofs.lemmas.List.Quantifiers.{all_pairs_remove}
use Rattle.sop_model.specs.Names.{are_distinct}
use Rattle.sop_net.specs.declared.node.Node.{Node}
use Rattle.sop_net.specs.Limits.{most_nodes}
use Rattle.sop_net.specs.Network.{node_of, IsLive, IsNodeOf, wired, wires_of, sources}
use Rattle.sop_net.specs.Order.{In, IsOrdered, IsOrder, IsKept}
use Rattle.sop_net.specs.Steps.{unless_from, unwired}
use Rattle.sop_net.proofs.Membership.{contains-in, in-contains, in-filter, filter-in}
use Rattle.sop_net.proofs.OrderLemmas.{some-or, order-no_cycle}
use Rattle.sop_net.proofs.PlaceLemmas.{Rises, live-read}
use Rattle.sop_net.proofs.Searches.{length-map}

-- lists with one element less
remove-none : {A : Type 0} (i : ℕ) → remove {X = A} [] i ≡ []
remove-none zero = refl
remove-none (suc i) = refl

pub map-remove : {A B : Type 0} (f : A → B) (xs : List A) (i : ℕ) → map f (remove xs i) ≡ remove (map f xs) i
map-remove f [] i = ap (map f) (remove-none i) ∙ sym (remove-none i)
map-remove f (x ∷ xs) zero = refl
map-remove f (x ∷ xs) (suc i) = ap (λ l. f x ∷ l) (map-remove f xs i)

any-remove : {A : Type 0} (p : A → Bool) (xs : List A) (i : ℕ) → list_any p xs ≡ false → list_any p (remove xs i) ≡ false
any-remove p [] i h = ap (list_any p) (remove-none i)
any-remove p (x ∷ xs) zero h = (or_parts (p x) (list_any p xs) h).1
any-remove p (x ∷ xs) (suc i) h =
    let parts = or_parts (p x) (list_any p xs) h in
    ap (λ b. b || list_any p (remove xs i)) parts.0 ∙ any-remove p xs i parts.1

distinct-remove : (names : List (List ℕ)) (i : ℕ) → IsTrue (are_distinct names) → IsTrue (are_distinct (remove names i))
distinct-remove [] i h = ap are_distinct (remove-none i)
distinct-remove (t ∷ names) zero h = (and_parts (not (list_any (bytes_eq t) names)) (are_distinct names) h).1
distinct-remove (t ∷ names) (suc i) h =
    let parts = and_parts (not (list_any (bytes_eq t) names)) (are_distinct names) h in
    let none : list_any (bytes_eq t) (remove names i) ≡ false = any-remove (bytes_eq t) names i (not-true (list_any (bytes_eq t) names) parts.0) in
    ap (λ b. not b && are_distinct (remove names i)) none ∙ distinct-remove names i parts.1

pub All-remove : {A : Type 0} (P : A → Type 0) (xs : List A) (i : ℕ) → All P xs → All P (remove xs i)
All-remove P xs i all = All-append P (take i xs) (drop (suc i) xs) (All-take P i xs all) (All-drop P (suc i) xs all)

-- nodes without a wire from `v`
node_of-unwired : (v : ℕ) (nodes : List Node) (y : ℕ) → node_of (map (unwired v) nodes) y ≡ option_map (unwired v) (node_of nodes y)
node_of-unwired v [] y = refl
node_of-unwired v (n ∷ nodes) y =
    elim (n.number == y) as (λ b. cond b (Some (unwired v n)) (node_of (map (unwired v) nodes) y) ≡ option_map (unwired v) (cond b (Some n) (node_of nodes y))) [ true ↦ refl | false ↦ node_of-unwired v nodes y ]

wires-in : (v : ℕ) (wires : List (Option ℕ)) (z : ℕ) → In (wired (map (unless_from v) wires)) z → In (wired wires) z × ((z == v) ≡ false)
wires-in v [] z i = absurd i
wires-in v (None ∷ wires) z i = wires-in v wires z i
wires-in v (Some source ∷ wires) z i =
    (elim (source == v) as (λ b. (source == v) ≡ b → In (wired (cond b None (Some source) ∷ map (unless_from v) wires)) z → In (source ∷ wired wires) z × ((z == v) ≡ false)) [
      | true ↦ λ e j. (let rest = wires-in v wires z j in (inr rest.0, rest.1))
      | false ↦ λ e j. elim j [ inl q ↦ (inl q, subst (λ k. (k == v) ≡ false) q e) | inr k ↦ (let rest = wires-in v wires z k in (inr rest.0, rest.1)) ]
    ]) refl i

found-in : (v : ℕ) (found : Option Node) (z : ℕ) → In (wired (wires_of (option_map (unwired v) found))) z → In (wired (wires_of found)) z × ((z == v) ≡ false)
found-in v None z i = absurd i
found-in v (Some n) z i = wires-in v n.wires z i

-- a number that no node behind has
none-above : (nodes : List Node) (k : ℕ) → ((i : ℕ) (d : Node) → i < length nodes → k < (get_or nodes i d).number) → node_of nodes k ≡ None
none-above [] k h = refl
none-above (n ∷ nodes) k h =
    let here : (n.number == k) ≡ false = ne_eqb n.number k (λ e. let less = h 0 n (omega arith) in omega arith) in
    ap (λ b. cond b (Some n) (node_of nodes k)) here ∙ none-above nodes k (λ i d lt. h (suc i) d (omega arith))

tail-rises : (n : Node) (nodes : List Node) → Rises (n ∷ nodes) → Rises nodes
tail-rises n nodes rises = λ i j d less within. rises (suc i) (suc j) d (omega arith) (omega arith)

gone : (nodes : List Node) (at : ℕ) (d : Node) → Rises nodes → at < length nodes → node_of (remove nodes at) (get_or nodes at d).number ≡ None
gone [] at d rises h = absurd (omega arith)
gone (n ∷ nodes) zero d rises h = none-above nodes n.number (λ i e lt. rises 0 (suc i) e (omega arith) (omega arith))
gone (n ∷ nodes) (suc at) d rises h =
    let lt : at < length nodes = omega arith in
    let less = rises 0 (suc at) d (omega arith) h in
    let here : (n.number == (get_or nodes at d).number) ≡ false = ne_eqb n.number (get_or nodes at d).number (λ e. omega arith) in
    ap (λ b. cond b (Some n) (node_of (remove nodes at) (get_or nodes at d).number)) here ∙ gone nodes at d (tail-rises n nodes rises) lt

stay : (nodes : List Node) (at y : ℕ) (d : Node) → at < length nodes → ((get_or nodes at d).number == y) ≡ false → node_of (remove nodes at) y ≡ node_of nodes y
stay [] at y d h e = absurd (omega arith)
stay (n ∷ nodes) zero y d h e = ap (λ b. cond b (Some n) (node_of nodes y)) (sym e)
stay (n ∷ nodes) (suc at) y d h e =
    elim (n.number == y) as (λ b. cond b (Some n) (node_of (remove nodes at) y) ≡ cond b (Some n) (node_of nodes y)) [ true ↦ refl | false ↦ stay nodes at y d (omega arith) e ]

pub number-map : (v : ℕ) (nodes : List Node) (i : ℕ) (d : Node) → (get_or (map (unwired v) nodes) i d).number ≡ (get_or nodes i d).number
number-map v [] i d = refl
number-map v (n ∷ nodes) zero d = refl
number-map v (n ∷ nodes) (suc i) d = number-map v nodes i d

names-unwired : (v : ℕ) (nodes : List Node) → map (λ n. n.name) (map (unwired v) nodes) ≡ map (λ n. n.name) nodes
names-unwired v [] = refl
names-unwired v (n ∷ nodes) = ap (λ l. n.name ∷ l) (names-unwired v nodes)

some-map : {A B : Type 0} (f : A → B) (o : Option A) → is_some (option_map f o) ≡ is_some o
some-map f None = refl
some-map f (Some x) = refl

-- an order without a node
ordered-filter : (f g : ℕ → List ℕ) (p : ℕ → Bool) (before b order : List ℕ) → ((x y : ℕ) → In (g x) y → In (f x) y × (p y ≡ true)) → ((y : ℕ) → In before y → p y ≡ true → In b y)
    → IsOrdered f before order → IsOrdered g b (filter p order)
ordered-filter f g p before b [] fewer rel o = tt
ordered-filter f g p before b (x ∷ order) fewer rel o =
    (elim (p x) as (λ v. p x ≡ v → IsOrdered g b (cond v (x ∷ filter p order) (filter p order))) [
      | true ↦ λ h. (
        (λ y i. let j = fewer x y i in rel y (o.0 y j.0) j.1),
        ordered-filter f g p (x ∷ before) (x ∷ b) order fewer (λ y i kept. elim i [ inl e ↦ inl e | inr j ↦ inr (rel y j kept) ]) o.1,
      )
      | false ↦ λ h. ordered-filter f g p (x ∷ before) b order fewer
          (λ y i kept. elim i [ inl e ↦ (let out : p y ≡ false = subst (λ v. p v ≡ false) e h in absurd (cc)) | inr j ↦ rel y j kept ]) o.1
    ]) refl

filter-short : (p : ℕ → Bool) (xs : List ℕ) → length (filter p xs) ≤ length xs
filter-short p [] = omega arith
filter-short p (x ∷ xs) = let le = filter-short p xs in elim (p x) as (λ b. length (cond b (x ∷ filter p xs) (filter p xs)) ≤ suc (length xs)) [ true ↦ omega arith | false ↦ omega arith ]

filter-drops : (p : ℕ → Bool) (xs : List ℕ) (v : ℕ) → In xs v → p v ≡ false → length (filter p xs) < length xs
filter-drops p [] v i h = absurd i
filter-drops p (x ∷ xs) v (inl e) h = let out : p x ≡ false = subst (λ k. p k ≡ false) (sym e) h in let le = filter-short p xs in rw out (omega arith)
filter-drops p (x ∷ xs) v (inr i) h = let lt = filter-drops p xs v i h in elim (p x) as (λ b. length (cond b (x ∷ filter p xs) (filter p xs)) < suc (length xs)) [ true ↦ omega arith | false ↦ omega arith ]

module _ (nodes : List Node) (names : List (List ℕ)) (order : List ℕ) (added at : ℕ) (kept : IsKept nodes names order added) (within : at < length nodes) (n : Node) (read : n ≡ get_or nodes at n) where
  -- what stands afterwards stood before and isn't the node
  was-live : (y : ℕ) → IsLive (map (unwired n.number) (remove nodes at)) y → IsLive nodes y × ((y == n.number) ≡ false)
  was-live y live =
      let some : is_some (node_of (remove nodes at) y) ≡ true = sym (some-map (unwired n.number) (node_of (remove nodes at) y)) ∙ ap is_some (sym (node_of-unwired n.number (remove nodes at) y)) ∙ live in
      (elim (y == n.number) as (λ b. (y == n.number) ≡ b → IsLive nodes y × (b ≡ false)) [
        | true ↦ λ e. (let same : y ≡ (get_or nodes at n).number = eqb-true y n.number e ∙ ap (λ k. k.number) read in
            let none : node_of (remove nodes at) y ≡ None = ap (node_of (remove nodes at)) same ∙ gone nodes at n kept.network.rising within in
            let no : is_some (node_of (remove nodes at) y) ≡ false = ap is_some none in absurd (cc))
        | false ↦ λ e. (let other : ((get_or nodes at n).number == y) ≡ false = ne_eqb (get_or nodes at n).number y (λ q. eqb-false y n.number e (sym q ∙ ap (λ k. k.number) (sym read))) in
            (ap is_some (sym (stay nodes at y n within other)) ∙ some, refl))
      ]) refl

  stays-live : (y : ℕ) → IsLive nodes y → (y == n.number) ≡ false → IsLive (map (unwired n.number) (remove nodes at)) y
  stays-live y live e =
      let other : ((get_or nodes at n).number == y) ≡ false = ne_eqb (get_or nodes at n).number y (λ q. eqb-false y n.number e (sym q ∙ ap (λ k. k.number) (sym read))) in
      ap is_some (node_of-unwired n.number (remove nodes at) y) ∙ some-map (unwired n.number) (node_of (remove nodes at) y) ∙ ap is_some (stay nodes at y n within other) ∙ live

  source-was : (x z : ℕ) → In (sources (map (unwired n.number) (remove nodes at)) x) z → In (sources nodes x) z × ((z == n.number) ≡ false)
  source-was x z i =
      let live = was-live x (some-or (node_of (map (unwired n.number) (remove nodes at)) x) z i) in
      let other : ((get_or nodes at n).number == x) ≡ false = ne_eqb (get_or nodes at n).number x (λ q. eqb-false x n.number live.1 (sym q ∙ ap (λ k. k.number) (sym read))) in
      let found = found-in n.number (node_of (remove nodes at) x) z (subst (λ o. In (wired (wires_of o)) z) (node_of-unwired n.number (remove nodes at) x) i) in
      (subst (λ o. In (wired (wires_of o)) z) (stay nodes at x n within other) found.0, found.1)

  order-removed : IsOrder (sources (map (unwired n.number) (remove nodes at))) (map (unwired n.number) (remove nodes at)) (filter (λ x. not (x == n.number)) order)
  order-removed =
      let o = kept.is_order in
      let p : ℕ → Bool = λ x. not (x == n.number) in
      let in_order : In order n.number = o.complete n.number (live-read nodes at n kept.network.rising within read) in
      let le : length order ≤ length nodes = o.short in
      let less : length (filter p order) < length order = filter-drops p order n.number in_order (ap not (eq-eqb n.number n.number refl)) in
      let one = length-remove nodes at within in
      record {
        ordered = ordered-filter (sources nodes) (sources (map (unwired n.number) (remove nodes at))) p [] [] order (λ x y i. let r = source-was x y i in (r.0, ap not r.1)) (λ y none h. absurd none) o.ordered;
        complete = λ x live. let r = was-live x live in in-filter p order x (o.complete x r.0) (ap not r.1);
        live = λ x i. let r = filter-in p order x i in stays-live x (o.live x r.0) (not-true (x == n.number) r.1);
        short = rw length-map (omega arith);
      }

  pub kept-removed : IsKept (map (unwired n.number) (remove nodes at)) (remove names at) (filter (λ x. not (x == n.number)) order) added
  kept-removed =
      let v = n.number in
      let net = kept.network in
      let one = length-remove nodes at within in
      let few : length nodes ≤ most_nodes = net.few in
      let same_names : map (λ m. m.name) (map (unwired n.number) (remove nodes at)) ≡ remove (map (λ m. m.name) nodes) at = names-unwired n.number (remove nodes at) ∙ map-remove (λ (m : Node). m.name) nodes at in
      record {
        network = record {
          few = rw length-map (omega arith);
          nodes = All-map IsNodeOf (unwired n.number) (remove nodes at)
              (All-weaker IsNodeOf (λ m. IsNodeOf (unwired n.number m)) (λ m is. record { name = is.name; parms = is.parms; inputs = length-map (unless_from n.number) m.wires ∙ is.inputs }) (remove nodes at) (All-remove IsNodeOf nodes at net.nodes));
          names = rw same_names (distinct-remove (map (λ m. m.name) nodes) at net.names);
          rising = λ i j d less within'. rw (number-map n.number (remove nodes at) i d, number-map n.number (remove nodes at) j d)
              (all_pairs_remove (λ a b. a.number < b.number) nodes at within net.rising i j d less (rw length-map at within'));
          below = All-map (λ m. m.number < added) (unwired n.number) (remove nodes at) (All-remove (λ m. m.number < added) nodes at net.below);
          live = λ x y c. let r = source-was x y (contains-in (sources (map (unwired n.number) (remove nodes at)) x) y c) in stays-live y (net.live x y (in-contains (sources nodes x) y r.0)) r.1;
          no_cycle = order-no_cycle (map (unwired n.number) (remove nodes at)) (filter (λ x. not (x == n.number)) order) order-removed;
        };
        same_names = ap (λ l. remove l at) kept.same_names ∙ sym same_names;
        is_order = order-removed;
      }

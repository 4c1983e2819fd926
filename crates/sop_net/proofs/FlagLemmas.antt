-- Flags of nodes by their places, and how they come about along an order.
use Rattle.std.proofs.Common.{◌≡◌, ◌∙◌, sym, ap, subst, refl, ℕ, zero, suc, ◌+◌, ◌<◌, ◌⊎◌, inl, inr, List, [], ◌∷◌, ◌++◌, Bool, true, false, ◌||◌, ◌==◌, length, get_or, set, take, arith, get_or-set_same, get_or-set_other}
use Rattle.std.specs.Prelude.{Option, None, Some}
use Rattle.std.specs.List.{list_any, position_or_len}
use Rattle.std.proofs.lemmas.Bool.{eqb-true, eqb-false}
use Rattle.std.proofs.lemmas.List.{take_more, get_or_default}
use Rattle.std.proofs.lemmas.List.Quantifiers.{position-Some}
use Rattle.sop_net.specs.declared.node.Node.{Node}
use Rattle.sop_net.specs.Graph.{searched}
use Rattle.sop_net.specs.Network.{place_of, IsLive, wired, wires_of, sources}
use Rattle.sop_net.specs.Order.{In, IsOrdered, IsOrder, mark_at, flag_of}
use Rattle.sop_net.proofs.Membership.{in-split, any-same}
use Rattle.sop_net.proofs.GraphLemmas.{searched-step}
use Rattle.sop_net.proofs.OrderLemmas.{order-within}
use Rattle.sop_net.proofs.PlaceLemmas.{stands-at, node-read, number-read}

pub wired-in : (wires : List (Option ℕ)) (i y : ℕ) (wire : Option ℕ) → i < length wires → wire ≡ get_or wires i wire → wire ≡ Some y → In (wired wires) y
wired-in [] i y wire h read is = absurd (omega arith)
wired-in (None ∷ wires) zero y wire h read is = absurd (cc)
wired-in (Some v ∷ wires) zero y wire h read is = inl (cc)
wired-in (None ∷ wires) (suc i) y wire h read is = wired-in wires i y wire (omega arith) read is
wired-in (Some v ∷ wires) (suc i) y wire h read is = inr (wired-in wires i y wire (omega arith) read is)

pub in-at : (xs : List ℕ) (i : ℕ) → i < length xs → In xs (get_or xs i 0)
in-at [] i h = absurd (omega arith)
in-at (x ∷ xs) zero h = inl refl
in-at (x ∷ xs) (suc i) h = inr (in-at xs i (omega arith))

pub taken-in : (xs : List ℕ) (i y : ℕ) → In (take i xs) y → In xs y
taken-in [] i y j = elim i as (λ k. In (take k []) y → In [] y) [ zero ↦ λ none. none | suc k ↦ λ none. none ] j
taken-in (x ∷ xs) zero y j = absurd j
taken-in (x ∷ xs) (suc i) y (inl e) = inl e
taken-in (x ∷ xs) (suc i) y (inr j) = inr (taken-in xs i y j)

-- what the node at a place of an order takes from stands before that place
ordered-at : (f : ℕ → List ℕ) (before order : List ℕ) (i y : ℕ) → IsOrdered f before order → i < length order → In (f (get_or order i 0)) y → In before y ⊎ In (take i order) y
ordered-at f before [] i y o h j = absurd (omega arith)
ordered-at f before (x ∷ order) zero y o h j = inl (o.0 y j)
ordered-at f before (x ∷ order) (suc i) y o h j = elim (ordered-at f (x ∷ before) order i y o.1 (omega arith) j) [
  | inl old ↦ elim old [ inl e ↦ inr (inl e) | inr more ↦ inl more ]
  | inr later ↦ inr (inr later)
]

-- two numbers have two places
other-place : (nodes : List Node) (x y i j : ℕ) → place_of nodes x ≡ Some i → place_of nodes y ≡ Some j → (y ≡ x → ⊥) → j ≡ i → ⊥
other-place [] x y i j a b d e = absurd (cc)
other-place (n ∷ nodes) x y i j a b d e =
    let here = eqb-true _ x (position-Some (λ (m : Node). m.number == x) (n ∷ nodes) i n a).1 in
    let there = eqb-true _ y (position-Some (λ (m : Node). m.number == y) (n ∷ nodes) j n b).1 in
    let same : (get_or (n ∷ nodes) j n).number ≡ (get_or (n ∷ nodes) i n).number = ap (λ k. (get_or (n ∷ nodes) k n).number) e in
    d (sym there ∙ same ∙ here)

module _ {A : Type 0} (none : A) (nodes : List Node) (marks : List A) (x i : ℕ) (mark : A) (place : place_of nodes x ≡ Some i) where
  pub mark-set_same : i < length marks → mark_at none (set marks i mark) (place_of nodes x) ≡ mark
  mark-set_same within = ap (mark_at none (set marks i mark)) place ∙ get_or-set_same marks i mark none within

  pub mark-set_other : (y : ℕ) → (y ≡ x → ⊥) → IsLive nodes y → mark_at none (set marks i mark) (place_of nodes y) ≡ mark_at none marks (place_of nodes y)
  mark-set_other y d live =
      let s = stands-at nodes y live in
      let j = position_or_len (λ (n : Node). n.number == y) nodes in
      let apart : j ≡ i → ⊥ = other-place nodes x y i j place s.place d in
      ap (mark_at none (set marks i mark)) s.place ∙ get_or-set_other marks i j mark none apart ∙ ap (mark_at none marks) (sym s.place)

-- one node more along the order
pub flags-more : (nodes : List Node) (order : List ℕ) (flags : List Bool) (node i at x : ℕ) (value : Bool)
    → IsOrder (sources nodes) nodes order → i < length order → x ≡ get_or order i 0 → place_of nodes x ≡ Some at → at < length flags
    → ((y : ℕ) → In (take i order) y → flag_of nodes flags y ≡ searched (length nodes) (sources nodes) y node)
    → value ≡ ((x == node) || list_any (flag_of nodes flags) (sources nodes x))
    → (y : ℕ) → In (take (i + 1) order) y → flag_of nodes (set flags at value) y ≡ searched (length nodes) (sources nodes) y node
flags-more nodes order flags node i at x value o h is place within before found y there =
    let f = sources nodes in
    let p : ℕ → Bool = λ v. searched (length nodes) f v node in
    let live : IsLive nodes x = o.live x (subst (λ v. In order v) (sym is) (in-at order i h)) in
    let known : list_any (flag_of nodes flags) (f x) ≡ list_any p (f x) =
    any-same (flag_of nodes flags) p (f x)
    (λ m j. elim (ordered-at f [] order i m o.ordered h (subst (λ v. In (f v) m) is j)) [ inl none ↦ absurd none | inr b ↦ before m b ]) in
    let here : flag_of nodes (set flags at value) x ≡ p x =
    mark-set_same false nodes flags x at value place within ∙ found ∙ ap (λ b. (x == node) || b) known ∙ sym (searched-step f (length nodes) x node (order-within nodes order o x live)) in
    let split : In (take i order ++ get_or order i 0 ∷ []) y = subst (λ l. In l y) (take_more order i 0 h) there in
    (elim (y == x) as (λ b. (y == x) ≡ b → flag_of nodes (set flags at value) y ≡ p y) [
      | true ↦ λ e. (let same : y ≡ x = eqb-true y x e in subst (λ v. flag_of nodes (set flags at value) v ≡ p v) (sym same) here)
      | false ↦ λ e. (let apart : y ≡ x → ⊥ = eqb-false y x e in
          elim (in-split (take i order) (get_or order i 0 ∷ []) y split) [
            | inl old ↦ mark-set_other false nodes flags x at value place y apart (o.live y (taken-in order i y old)) ∙ before y old
            | inr new ↦ elim new [ inl q ↦ absurd (apart (sym q ∙ sym is)) | inr none ↦ absurd none ]
          ])
    ]) refl

-- the same, with the node as it is read
pub flags-step : (nodes : List Node) (order : List ℕ) (flags : List Bool) (node i at x : ℕ) (value : Bool) (n : Node)
    → IsOrder (sources nodes) nodes order → i < length order → x ≡ get_or order i x → place_of nodes x ≡ Some at → at < length nodes → length flags ≡ length nodes → n ≡ get_or nodes at n
    → ((y : ℕ) → In (take i order) y → flag_of nodes flags y ≡ searched (length nodes) (sources nodes) y node)
    → value ≡ ((n.number == node) || list_any (flag_of nodes flags) (wired n.wires))
    → (y : ℕ) → In (take (i + 1) order) y → flag_of nodes (set flags at value) y ≡ searched (length nodes) (sources nodes) y node
flags-step nodes order flags node i at x value n o h is place within long read before found =
    let number = number-read nodes x at n place read in
    let wires : sources nodes x ≡ wired n.wires = ap (λ found. wired (wires_of found)) (node-read nodes x at n place within read) in
    flags-more nodes order flags node i at x value o h (is ∙ get_or_default order i x 0 h) place (rw long within) before
    (found ∙ ap (λ k. (k == node) || list_any (flag_of nodes flags) (wired n.wires)) number ∙ ap (λ l. (x == node) || list_any (flag_of nodes flags) l) (sym wires))

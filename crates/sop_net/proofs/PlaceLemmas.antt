-- Places in a list of nodes whose numbers rise.
use Rattle.std.proofs.Common.{◌≡◌, ◌∙◌, sym, ap, refl, ℕ, ◌+◌, ◌<◌, inl, inr, List, [], ◌∷◌, false, cond, length, get_or, arith, eq-eqb}
use Rattle.std.specs.Prelude.{None, Some, Err, AllPairs, slice_get, is_some, nat_lt, ◌==◌}
use Rattle.std.specs.List.{position_or_len, HoldsAt}
use Rattle.std.specs.Ordering.{nat_cmp, is_lt}
use Rattle.std.specs.List.Sorted.{IsBinarySearchResult, IsSortedBy}
use Rattle.std.specs.declared.cmp.Ordering.TheVariants.{Equal, Less, Greater}
use Rattle.std.specs.Cmp.{nat_cmp_is}
use Rattle.std.proofs.lemmas.Bool.{ne_eqb, eqb-true, cases_lt}
use Rattle.std.proofs.lemmas.Cmp.{nat_cmp_total}
use Rattle.std.proofs.lemmas.List.Folds.{find_at}
use Rattle.std.proofs.lemmas.List.Quantifiers.{position-Some}
use Rattle.std.proofs.lemmas.List.Sums.{position_or_len_is, passes_at_first}
use Rattle.std.proofs.lemmas.List.Sorted.{searchable_from_sorted}
use Rattle.std.proofs.lemmas.Option.{slice_get_read}
use Rattle.sop_net.specs.declared.node.Node.{Node}
use Rattle.sop_net.specs.Network.{node_of, place_of, IsLive}
use Rattle.sop_net.proofs.Searches.{cond-below, within-some, find-position}

-- numbers rise along the list
abbrev pub Rises : List Node → Type 0
Rises nodes = AllPairs (λ a b. a.number < b.number) nodes

-- the node at a place is found there by its number
pub place-at : (nodes : List Node) (i x : ℕ) (d : Node) → Rises nodes → i < length nodes → (get_or nodes i d).number ≡ x → place_of nodes x ≡ Some i
place-at nodes i x d rises h e =
    let first : position_or_len (λ n. n.number == x) nodes ≡ i =
    position_or_len_is (λ n. n.number == x) nodes i d (omega arith)
    (λ k below. ne_eqb (get_or nodes k d).number x (λ same. let less = rises k i d below h in omega arith))
    (λ _. eq-eqb (get_or nodes i d).number x e) in
    ap (λ k. cond (nat_lt k (length nodes)) (Some k) None) first ∙ cond-below i (length nodes) h

-- a place below the length, for a node that stands
pub record StandsAt (nodes : List Node) (x i : ℕ) : Type 0 where
  pub within : i < length nodes
  pub numbered : (d : Node) → (get_or nodes i d).number ≡ x
  pub place : place_of nodes x ≡ Some i
  pub found : node_of nodes x ≡ slice_get nodes i

pub stands-at : (nodes : List Node) (x : ℕ) → IsLive nodes x → StandsAt nodes x (position_or_len (λ n. n.number == x) nodes)
stands-at nodes x live =
    let i = position_or_len (λ (n : Node). n.number == x) nodes in
    let found : node_of nodes x ≡ slice_get nodes i = find_at (λ n. n.number == x) nodes in
    let within : i < length nodes = within-some nodes i (ap is_some (sym found) ∙ live) in
    record {
      within = within;
      numbered = λ d. eqb-true _ x (passes_at_first (λ n. n.number == x) nodes d within);
      place = cond-below i (length nodes) within;
      found = found;
    }

cmp-above : (a b : ℕ) → a < b → is_lt (nat_cmp b a) ≡ false
cmp-above a b h = ap is_lt (sym (nat_cmp_is b a Greater h))

pub cmp-equal : (a x : ℕ) → nat_cmp a x ≡ Equal → a ≡ x
cmp-equal a x e = elim (cases_lt a x) [
  | inl less ↦ (let c = nat_cmp_is a x Less less in absurd (cc))
  | inr le ↦ elim (cases_lt x a) [
    | inl more ↦ (let c = nat_cmp_is a x Greater more in absurd (cc))
    | inr ge ↦ omega arith
  ]
]

sorted-by_number : (nodes : List Node) → Rises nodes → IsSortedBy (λ a b. is_lt (nat_cmp a.number b.number)) nodes
sorted-by_number nodes rises = λ k d low high. cmp-above _ _ (rises k (k + 1) d (omega arith) high)

-- a search in halves finds a node that stands
pub search-finds : (nodes : List Node) (x i : ℕ) → Rises nodes → IsLive nodes x → IsBinarySearchResult (λ n. nat_cmp n.number x) nodes (Err i) → ⊥
search-finds [] x i rises live answer = absurd (cc)
search-finds (n ∷ rest) x i rises live answer =
    let j = position_or_len (λ (n : Node). n.number == x) (n ∷ rest) in
    let s = stands-at (n ∷ rest) x live in
    let point = answer (searchable_from_sorted nat_cmp_total (λ (n : Node). n.number) (n ∷ rest) x (sorted-by_number (n ∷ rest) rises)) in
    let same : Equal ≡ nat_cmp (get_or (n ∷ rest) j n).number x = nat_cmp_is _ x Equal (s.numbered n) in
    elim (cases_lt j i) [
      | inl below ↦ (let less = point.0 j n (omega arith) below in absurd (cc))
      | inr above ↦ (let more = point.1 j n above s.within in absurd (cc))
    ]

-- what a search in halves finds is the place
pub search-place : (nodes : List Node) (x i : ℕ) → Rises nodes → i < length nodes → HoldsAt (λ n. nat_cmp n.number x ≡ Equal) nodes i → place_of nodes x ≡ Some i
search-place [] x i rises within found = absurd (let none : i < 0 = within in omega arith)
search-place (n ∷ rest) x i rises within found = place-at (n ∷ rest) i x n rises within (cmp-equal (get_or (n ∷ rest) i n).number x (found n))

-- the node that stands at the place of a number
pub node-at-place : (nodes : List Node) (x i : ℕ) → place_of nodes x ≡ Some i → node_of nodes x ≡ slice_get nodes i
node-at-place nodes x i e = find-position (λ n. n.number == x) nodes i e

pub node-read : (nodes : List Node) (x i : ℕ) (n : Node) → place_of nodes x ≡ Some i → i < length nodes → n ≡ get_or nodes i n → node_of nodes x ≡ Some n
node-read nodes x i n e h read = node-at-place nodes x i e ∙ slice_get_read nodes (length nodes) i n refl h read

pub number-read : (nodes : List Node) (x i : ℕ) (n : Node) → place_of nodes x ≡ Some i → n ≡ get_or nodes i n → n.number ≡ x
number-read nodes x i n place read = ap (λ m. m.number) read ∙ eqb-true (get_or nodes i n).number x (position-Some (λ m. m.number == x) nodes i n place).1

-- a node that is read at a place stands
pub live-read : (nodes : List Node) (i : ℕ) (n : Node) → Rises nodes → i < length nodes → n ≡ get_or nodes i n → IsLive nodes n.number
live-read nodes i n rises h read = ap is_some (node-read nodes n.number i n (place-at nodes i n.number n rises h (ap (λ m. m.number) (sym read))) h read)

-- Distinct nodes that stand are no more than the nodes of the network.
use Rattle.std.proofs.Common.{◌≡◌, ◌≢◌, ◌∙◌, ap, sym, ℕ, ◌<◌, ◌≤◌, List, [], ◌∷◌, true, false, length, get_or, arith, eqb}
use Rattle.std.specs.Prelude.{All, AllPairs, Some, map, ◌==◌}
use Rattle.std.specs.List.{position_or_len, list_any}
use Rattle.std.proofs.lemmas.Bool.{eqb-true, ne_eqb}
use Rattle.std.proofs.lemmas.List.{get_or-map, length-map}
use Rattle.std.proofs.lemmas.List.Elements.{All-map, All-weaker, All-get_or}
use Rattle.std.proofs.lemmas.List.Folds.{Any-from_list_any}
use Rattle.std.proofs.lemmas.List.Quantifiers.{position-Some}
use Rattle.std.proofs.lemmas.Map.Keys.{IsDistinct-from_apart}
use Rattle.std.proofs.lemmas.Map.Steps.{length-le_from_distinct_below}
use Rattle.sop_net.specs.declared.node.Node.{Node}
use Rattle.sop_net.specs.Network.{place_of, IsLive}
use Rattle.sop_net.proofs.PlaceLemmas.{stands-at}

-- the first place of a number, or the length
abbrev place_or_len : List Node → ℕ → ℕ
place_or_len nodes x = position_or_len (λ n. n.number == x) nodes

-- two nodes at one place have one number
pub same_number : (nodes : List Node) (x y place : ℕ) → place_of nodes x ≡ Some place → place_of nodes y ≡ Some place → x ≡ y
same_number [] x y place hx hy = let no : ⊥ = cc in absurd no
same_number (n ∷ nodes) x y place hx hy =
    let at = (get_or (n ∷ nodes) place n).number in
    sym (eqb-true at x (position-Some (λ m. m.number == x) (n ∷ nodes) place n hx).1) ∙ eqb-true at y (position-Some (λ m. m.number == y) (n ∷ nodes) place n hy).1

same_place : (nodes : List Node) (x y : ℕ) → IsLive nodes x → IsLive nodes y → place_or_len nodes x ≡ place_or_len nodes y → x ≡ y
same_place nodes x y hx hy e = same_number nodes x y (place_or_len nodes y) ((stands-at nodes x hx).place ∙ ap Some e) (stands-at nodes y hy).place

module _ (nodes : List Node) (xs : List ℕ) (live : All (IsLive nodes) xs) (distinct : AllPairs (λ x y. x ≢ y) xs) where
  places : List ℕ
  places = map (place_or_len nodes) xs

  apart : (i j d : ℕ) → i < j → j < length places → eqb (get_or places i d) (get_or places j d) ≡ false
  unfolding places
  apart i j d lt below =
      let within : j < length xs = omega (arith, length-map xs (place_or_len nodes)) in
      let first = get_or-map (place_or_len nodes) xs i 0 d (omega arith) in
      let second = get_or-map (place_or_len nodes) xs j 0 d within in
      ne_eqb (get_or places i d) (get_or places j d)
      (λ e. distinct i j 0 lt within (same_place nodes (get_or xs i 0) (get_or xs j 0) (live i 0 (omega arith)) (live j 0 within) (sym first ∙ e ∙ second)))

  places_below : All (λ i. i < length nodes) places
  unfolding places
  places_below = All-map (λ i. i < length nodes) (place_or_len nodes) xs (All-weaker (IsLive nodes) (λ x. place_or_len nodes x < length nodes) (λ x here. (stands-at nodes x here).within) xs live)

  found_below : (q : ℕ) → list_any (eqb q) places ≡ true → q < length nodes
  found_below q h =
      let any = Any-from_list_any (eqb q) places h in
      let below = All-get_or (λ i. i < length nodes) places any.0 any.1 any.2 places_below in
      let same = eqb-true q any.1 any.4 in
      let e = any.3 in
      omega (arith, below, same, e)

  -- distinct nodes that stand are at most as many as all
  pub no_more_than : length xs ≤ length nodes
  unfolding places
  no_more_than = let few = length-le_from_distinct_below places (length nodes) (IsDistinct-from_apart eqb places apart) found_below in omega (arith, few, length-map xs (place_or_len nodes))

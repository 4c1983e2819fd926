-- Ranks of nodes by their places: what they say of an order, and how they stay when nodes are added, changed and removed.
use Rattle.std.proofs.Common.{◌≡◌, ◌∙◌, sym, ap, subst, refl, ℕ, zero, suc, ◌+◌, ◌-◌, ◌<◌, ◌≤◌, inl, inr, List, [], ◌∷◌, ◌++◌, Bool, true, false, not, ◌==◌, cond, length, get_or, set, drop, arith, eq-eqb, length-append, length-set}
use Rattle.std.specs.Prelude.{Some, map, All, filter, remove, IsTrue}
use Rattle.std.specs.List.{position_or_len}
use Rattle.std.proofs.lemmas.Bool.{cases_lt, eqb-true, eqb-false, ne_eqb, not-true}
use Rattle.std.proofs.lemmas.Grind.{common_steps}
use Rattle.std.proofs.lemmas.List.{drop_more, get_or_default}
use Rattle.std.proofs.lemmas.List.Edits.{length-remove, get_or-remove_below, get_or-remove_above}
use Rattle.std.proofs.lemmas.List.Elements.{All-push, All-weaker}
use Rattle.sop_net.specs.declared.node.Node.{Node}
use Rattle.sop_net.specs.Network.{place_of, IsLive}
use Rattle.sop_net.specs.Order.{In, IsOrder, IsRanking, IsRanked, comes_first, mark_at, rank_of}
use Rattle.sop_net.specs.Steps.{unwired}
use Rattle.sop_net.proofs.Membership.{in-split, filter-in}
use Rattle.sop_net.proofs.Searches.{length-map}
use Rattle.sop_net.proofs.PlaceLemmas.{Rises, place-at, stands-at, live-read}
use Rattle.sop_net.proofs.FlagLemmas.{mark-set_same, mark-set_other}
use Rattle.sop_net.proofs.ChangeLemmas.{number-set}
use Rattle.sop_net.proofs.RemoveLemmas.{number-map, All-remove}

-- what comes first in an order comes first with more behind it, and without others
first-more : (x y : ℕ) (order more : List ℕ) → IsTrue (comes_first x y order) → IsTrue (comes_first x y (order ++ more))
first-more x y [] more h = absurd (cc)
first-more x y (z ∷ order) more h =
    (elim (z == y) as (λ b. cond b false (cond (z == x) true (comes_first x y order)) ≡ true → cond b false (cond (z == x) true (comes_first x y (order ++ more))) ≡ true) [
      | true ↦ λ t. t
      | false ↦ (elim (z == x) as (λ b. cond b true (comes_first x y order) ≡ true → cond b true (comes_first x y (order ++ more)) ≡ true) [ true ↦ λ t. t | false ↦ first-more x y order more ])
    ]) h

first-last : (x y : ℕ) (order : List ℕ) → In order x → (In order y → ⊥) → IsTrue (comes_first x y (order ++ y ∷ []))
first-last x y [] i out = absurd i
first-last x y (z ∷ order) i out =
    let other : (z == y) ≡ false = ne_eqb z y (λ e. out (inl e)) in
    ap (λ b. cond b false (cond (z == x) true (comes_first x y (order ++ y ∷ [])))) other
    ∙ (elim i [
      | inl e ↦ ap (λ b. cond b true (comes_first x y (order ++ y ∷ []))) (eq-eqb z x e)
      | inr j ↦ (elim (z == x) as (λ b. cond b true (comes_first x y (order ++ y ∷ [])) ≡ true) [ true ↦ refl | false ↦ first-last x y order j (λ k. out (inr k)) ])
    ])

first-filter : (p : ℕ → Bool) (x y : ℕ) (order : List ℕ) → p x ≡ true → IsTrue (comes_first x y order) → IsTrue (comes_first x y (filter p order))
first-filter p x y [] t h = h
first-filter p x y (z ∷ order) t h =
    (elim (z == y) as (λ b. (z == y) ≡ b → cond b false (cond (z == x) true (comes_first x y order)) ≡ true → IsTrue (comes_first x y (cond (p z) (z ∷ filter p order) (filter p order)))) [
      | true ↦ λ e first. absurd (cc)
      | false ↦ λ other.
          (elim (z == x) as (λ b. (z == x) ≡ b → cond b true (comes_first x y order) ≡ true → IsTrue (comes_first x y (cond (p z) (z ∷ filter p order) (filter p order)))) [
            | true ↦ λ e first.
                let stays : p z ≡ true = ap p (eqb-true z x e) ∙ t in
                ap (λ b. comes_first x y (cond b (z ∷ filter p order) (filter p order))) stays
                ∙ ap (λ b. cond b false (cond (z == x) true (comes_first x y (filter p order)))) other
                ∙ ap (λ b. cond b true (comes_first x y (filter p order))) e
            | false ↦ λ e first.
                let rest : IsTrue (comes_first x y (filter p order)) = first-filter p x y order t first in
                (elim (p z) as (λ b. IsTrue (comes_first x y (cond b (z ∷ filter p order) (filter p order)))) [
                  | true ↦ ap (λ b. cond b false (cond (z == x) true (comes_first x y (filter p order)))) other ∙ ap (λ b. cond b true (comes_first x y (filter p order))) e ∙ rest
                  | false ↦ rest
                ])
          ]) refl
    ]) refl h

-- what has the lesser place comes first
first-placed : (x y : ℕ) (order : List ℕ) → position_or_len (λ v. v == x) order < position_or_len (λ v. v == y) order → IsTrue (comes_first x y order)
first-placed x y [] h = absurd (omega arith)
first-placed x y (z ∷ order) h =
    let px = position_or_len (λ v. v == x) order in
    let py = position_or_len (λ v. v == y) order in
    (elim (z == y) as (λ b. cond (not (z == x)) (1 + px) 0 < cond (not b) (1 + py) 0 → cond b false (cond (z == x) true (comes_first x y order)) ≡ true) [
      | true ↦ λ less. absurd (omega arith)
      | false ↦ (elim (z == x) as (λ b. cond (not b) (1 + px) 0 < 1 + py → cond b true (comes_first x y order) ≡ true) [
        | true ↦ λ less. refl
        | false ↦ λ less. first-placed x y order (omega arith)
      ])
    ]) h

place-within : (x : ℕ) (order : List ℕ) → In order x → position_or_len (λ v. v == x) order < length order
place-within x [] i = absurd i
place-within x (z ∷ order) i =
    (elim (z == x) as (λ b. (z == x) ≡ b → cond (not b) (1 + position_or_len (λ v. v == x) order) 0 < length (z ∷ order)) [
      | true ↦ λ e. omega arith
      | false ↦ λ e. let less = place-within x order (elim i [ inl same ↦ absurd (eqb-false z x e same) | inr j ↦ j ]) in omega arith
    ]) refl

-- ranks that are places in the order
abbrev pub IsPlaced : List Node → List ℕ → List ℕ → Type 0
IsPlaced nodes order ranks = (x : ℕ) → In order x → rank_of nodes ranks x ≡ position_or_len (λ y. y == x) order

pub placed-ranking : (nodes : List Node) (order ranks : List ℕ) → length ranks ≡ length nodes → IsPlaced nodes order ranks → IsRanking nodes order ranks
placed-ranking nodes order ranks each placed = record {
  each = each;
  first = λ x y i j less. first-placed x y order (rw (placed x i, placed y j) at less);
}

pub placed-below : (nodes : List Node) (f : ℕ → List ℕ) (order ranks : List ℕ) → Rises nodes → IsOrder f nodes order → length ranks ≡ length nodes → IsPlaced nodes order ranks → All (λ rank. rank < length nodes) ranks
placed-below [] f order ranks rises o each placed = λ k d h. absurd (let none : k < length ranks = h in omega arith)
placed-below (n ∷ rest) f order ranks rises o each placed = λ k d h.
    let nodes = n ∷ rest in
    let within : k < length nodes = omega arith in
    let x = (get_or nodes k n).number in
    let there : In order x = o.complete x (live-read nodes k (get_or nodes k n) rises within (get_or_default nodes k n (get_or nodes k n) within)) in
    let at : rank_of nodes ranks x ≡ get_or ranks k d = ap (mark_at 0 ranks) (place-at nodes k x n rises within refl) ∙ get_or_default ranks k 0 d h in
    let less : position_or_len (λ y. y == x) order < length order = place-within x order there in
    let short : length order ≤ length nodes = o.short in
    let placed_at : rank_of nodes ranks x ≡ position_or_len (λ y. y == x) order = placed x there in
    omega arith

dropped-in : (xs : List ℕ) (i y : ℕ) → In (drop i xs) y → In xs y
dropped-in xs zero y j = j
dropped-in [] (suc i) y j = absurd j
dropped-in (x ∷ xs) (suc i) y j = inr (dropped-in xs i y j)

-- the ranks of the nodes of an order from a place on are their places
abbrev pub IsPlacedFrom : List Node → List ℕ → List ℕ → ℕ → Type 0
IsPlacedFrom nodes order ranks i = (y : ℕ) → In (drop i order) y → rank_of nodes ranks y ≡ i + position_or_len (λ v. v == y) (drop i order)

pub placed-step : (nodes : List Node) (order ranks : List ℕ) (i at x : ℕ) → i < length order → x ≡ get_or order i 0 → place_of nodes x ≡ Some at → at < length ranks
    → ((y : ℕ) → In order y → IsLive nodes y) → IsPlacedFrom nodes order ranks (i + 1) → IsPlacedFrom nodes order (set ranks at i) i
placed-step nodes order ranks i at x h is place within live behind y there =
    let cut : drop i order ≡ x ∷ drop (i + 1) order = drop_more order i 0 h ∙ ap (λ v. v ∷ drop (i + 1) order) (sym is) in
    let now : In (x ∷ drop (i + 1) order) y = subst (λ l. In l y) cut there in
    let rank = rank_of nodes (set ranks at i) y in
    (elim (x == y) as (λ b. (x == y) ≡ b → rank ≡ i + cond (not b) (1 + position_or_len (λ v. v == y) (drop (i + 1) order)) 0) [
      | true ↦ λ e.
          let same : x ≡ y = eqb-true x y e in
          let here : rank_of nodes (set ranks at i) x ≡ i = mark-set_same 0 nodes ranks x at i place within in
          let read : rank ≡ i = subst (λ v. rank_of nodes (set ranks at i) v ≡ i) same here in
          omega arith
      | false ↦ λ e.
          let apart : x ≡ y → ⊥ = eqb-false x y e in
          let later : In (drop (i + 1) order) y = elim now [ inl same ↦ absurd (apart same) | inr j ↦ j ] in
          let kept : rank ≡ rank_of nodes ranks y = mark-set_other 0 nodes ranks x at i place y (λ same. apart (sym same)) (live y (dropped-in order i y there)) in
          let was : rank_of nodes ranks y ≡ i + 1 + position_or_len (λ v. v == y) (drop (i + 1) order) = behind y later in
          omega arith
    ]) refl ∙ ap (λ l. i + position_or_len (λ v. v == y) l) (sym cut)

-- a node whose rank moves with it
moved : (nodes others : List Node) (ranks now : List ℕ) (x j : ℕ) (d : Node) (live : IsLive nodes x) → Rises others → j < length others → (get_or others j d).number ≡ x
    → get_or now j 0 ≡ get_or ranks (position_or_len (λ n. n.number == x) nodes) 0 → rank_of others now x ≡ rank_of nodes ranks x
moved nodes others ranks now x j d live rises within number same =
    let s = stands-at nodes x live in
    ap (mark_at 0 now) (place-at others j x d rises within number) ∙ same ∙ ap (mark_at 0 ranks) (sym s.place)

rank-below : (nodes : List Node) (ranks : List ℕ) (x bound : ℕ) → length ranks ≡ length nodes → All (λ rank. rank < bound) ranks → IsLive nodes x → rank_of nodes ranks x < bound
rank-below nodes ranks x bound each below live =
    let s = stands-at nodes x live in
    let i = position_or_len (λ (n : Node). n.number == x) nodes in
    let within : i < length nodes = s.within in
    let less : get_or ranks i 0 < bound = below i 0 (omega arith) in
    rw (ap (mark_at 0 ranks) s.place) less

-- ranks stay when a node changes and keeps its number
module _ (nodes : List Node) (order ranks : List ℕ) (at : ℕ) (m old : Node) (rises : Rises (set nodes at m)) (number : m.number ≡ (get_or nodes at old).number) where
  rank-set : (x : ℕ) → IsLive nodes x → rank_of (set nodes at m) ranks x ≡ rank_of nodes ranks x
  rank-set x live =
      let s = stands-at nodes x live in
      let i = position_or_len (λ (n : Node). n.number == x) nodes in
      let within : i < length nodes = s.within in
      moved nodes (set nodes at m) ranks ranks x i m live rises (rw length-set within) (number-set nodes at i m old m number ∙ s.numbered m) refl

  pub ranked-set : (added : ℕ) → ((x : ℕ) → In order x → IsLive nodes x) → IsRanked nodes order ranks added → IsRanked (set nodes at m) order ranks added
  ranked-set added live ranked = record {
    ranking = record {
      each = rw length-set ranked.ranking.each;
      first = λ x y i j less. ranked.ranking.first x y i j (rw (rank-set x (live x i), rank-set y (live y j)) at less);
    };
    below = ranked.below;
  }

-- a node more, whose number is its rank
module _ (nodes : List Node) (order ranks : List ℕ) (n : Node) (rises : Rises (nodes ++ n ∷ [])) (live : (x : ℕ) → In order x → IsLive nodes x) (ranked : IsRanked nodes order ranks n.number) where
  each-added : length (ranks ++ n.number ∷ []) ≡ length (nodes ++ n ∷ [])
  each-added = let each : length ranks ≡ length nodes = ranked.ranking.each in rw (length-append ranks (n.number ∷ []), length-append nodes (n ∷ [])) (omega arith)

  rank-added : (x : ℕ) → In order x → rank_of (nodes ++ n ∷ []) (ranks ++ n.number ∷ []) x ≡ rank_of nodes ranks x
  rank-added x i =
      let s = stands-at nodes x (live x i) in
      let k = position_or_len (λ (m : Node). m.number == x) nodes in
      let within : k < length nodes = s.within in
      let each : length ranks ≡ length nodes = ranked.ranking.each in
      let node : get_or (nodes ++ n ∷ []) k n ≡ get_or nodes k n = grind (arith, common_steps) in
      moved nodes (nodes ++ n ∷ []) ranks (ranks ++ n.number ∷ []) x k n (live x i) rises (grind (arith, common_steps)) (ap (λ m. m.number) node ∙ s.numbered n) (grind (arith, common_steps))

  rank-last : rank_of (nodes ++ n ∷ []) (ranks ++ n.number ∷ []) n.number ≡ n.number
  rank-last =
      let each : length ranks ≡ length nodes = ranked.ranking.each in
      let node : get_or (nodes ++ n ∷ []) (length nodes) n ≡ n = grind (arith, common_steps) in
      ap (mark_at 0 (ranks ++ n.number ∷ [])) (place-at (nodes ++ n ∷ []) (length nodes) n.number n rises (grind (arith, common_steps)) (ap (λ m. m.number) node))
      ∙ grind (arith, common_steps)

  below-last : (x : ℕ) → In order x → rank_of nodes ranks x < n.number
  below-last x i = rank-below nodes ranks x n.number ranked.ranking.each ranked.below (live x i)

  last-first : (y : ℕ) → In (order ++ n.number ∷ []) y → rank_of (nodes ++ n ∷ []) (ranks ++ n.number ∷ []) n.number < rank_of (nodes ++ n ∷ []) (ranks ++ n.number ∷ []) y → ⊥
  last-first y j less =
      let least : n.number < rank_of (nodes ++ n ∷ []) (ranks ++ n.number ∷ []) y = rw rank-last at less in
      elim (in-split order (n.number ∷ []) y j) [
        | inl old ↦ (let below = below-last y old in let same = rank-added y old in omega arith)
        | inr new ↦ elim new [
          | inl e ↦ (let same : rank_of (nodes ++ n ∷ []) (ranks ++ n.number ∷ []) y ≡ n.number = subst (λ v. rank_of (nodes ++ n ∷ []) (ranks ++ n.number ∷ []) v ≡ n.number) e rank-last in omega arith)
          | inr none ↦ absurd none
        ]
      ]

  -- the new node isn't in the order yet, since its number is above all others
  pub ranked-added : (In order n.number → ⊥) → IsRanked (nodes ++ n ∷ []) (order ++ n.number ∷ []) (ranks ++ n.number ∷ []) (n.number + 1)
  ranked-added fresh = record {
    ranking = record {
      each = each-added;
      first = λ x y i j less. elim (in-split order (n.number ∷ []) x i) [
        | inl old ↦ elim (in-split order (n.number ∷ []) y j) [
          | inl other ↦ first-more x y order (n.number ∷ []) (ranked.ranking.first x y old other (rw (rank-added x old, rank-added y other) at less))
          | inr new ↦ elim new [
            | inl e ↦ subst (λ v. IsTrue (comes_first x v (order ++ n.number ∷ []))) e (first-last x n.number order old fresh)
            | inr none ↦ absurd none
          ]
        ]
        | inr new ↦ elim new [
          | inl e ↦ absurd (last-first y j (subst (λ v. rank_of (nodes ++ n ∷ []) (ranks ++ n.number ∷ []) v < rank_of (nodes ++ n ∷ []) (ranks ++ n.number ∷ []) y) (sym e) less))
          | inr none ↦ absurd none
        ]
      ];
    };
    below = All-push (λ rank. rank < n.number + 1) ranks n.number (All-weaker (λ rank. rank < n.number) (λ rank. rank < n.number + 1) (λ rank less. omega arith) ranks ranked.below) (omega arith);
  }

-- a node less
module _ (nodes : List Node) (order ranks : List ℕ) (at : ℕ) (n : Node) (within : at < length nodes) (read : n ≡ get_or nodes at n) (rises : Rises (map (unwired n.number) (remove nodes at))) (live : (x : ℕ) → In order x → IsLive nodes x) where
  rank-removed : (x : ℕ) → length ranks ≡ length nodes → IsLive nodes x → (x == n.number) ≡ false → rank_of (map (unwired n.number) (remove nodes at)) (remove ranks at) x ≡ rank_of nodes ranks x
  rank-removed x each there other =
      let s = stands-at nodes x there in
      let k = position_or_len (λ (m : Node). m.number == x) nodes in
      let inside : k < length nodes = s.within in
      let one = length-remove nodes at within in
      let long : length (map (unwired n.number) (remove nodes at)) ≡ length (remove nodes at) = length-map (unwired n.number) (remove nodes at) in
      let apart : k ≡ at → ⊥ = λ e. eqb-false x n.number other (sym (s.numbered n) ∙ ap (λ i. (get_or nodes i n).number) e ∙ ap (λ m. m.number) (sym read)) in
      elim (cases_lt k at) [
        | inl below ↦ moved nodes (map (unwired n.number) (remove nodes at)) ranks (remove ranks at) x k n there rises (omega arith)
            (number-map n.number (remove nodes at) k n ∙ ap (λ m. m.number) (get_or-remove_below nodes at n k below within) ∙ s.numbered n)
            (get_or-remove_below ranks at 0 k below (omega arith))
        | inr above ↦ (
            let behind : at ≤ k - 1 = (elim (cases_lt at k) [ inl less ↦ omega arith | inr le ↦ absurd (apart (omega arith)) ]) in
            let back : k - 1 + 1 ≡ k = (elim (cases_lt at k) [ inl less ↦ omega arith | inr le ↦ absurd (apart (omega arith)) ]) in
            moved nodes (map (unwired n.number) (remove nodes at)) ranks (remove ranks at) x (k - 1) n there rises (omega arith)
            (number-map n.number (remove nodes at) (k - 1) n ∙ ap (λ m. m.number) (get_or-remove_above nodes at n (k - 1) behind within) ∙ ap (λ i. (get_or nodes i n).number) back ∙ s.numbered n)
            (get_or-remove_above ranks at 0 (k - 1) behind (omega arith) ∙ ap (λ i. get_or ranks i 0) back))
      ]

  pub ranked-removed : (added : ℕ) → IsRanked nodes order ranks added → IsRanked (map (unwired n.number) (remove nodes at)) (filter (λ x. not (x == n.number)) order) (remove ranks at) added
  ranked-removed added ranked =
      let p : ℕ → Bool = λ x. not (x == n.number) in
      let each : length ranks ≡ length nodes = ranked.ranking.each in
      let one = length-remove nodes at within in
      let one_rank = length-remove ranks at (omega arith) in
      let same : (x : ℕ) → In (filter p order) x → rank_of (map (unwired n.number) (remove nodes at)) (remove ranks at) x ≡ rank_of nodes ranks x =
      λ x i. let (was, other) = filter-in p order x i in rank-removed x each (live x was) (not-true (x == n.number) other) in
      record {
        ranking = record {
          each = rw length-map (omega arith);
          first = λ x y i j less.
              let (was, stays) = filter-in p order x i in
              first-filter p x y order stays (ranked.ranking.first x y was (filter-in p order y j).0 (rw (same x i, same y j) at less));
        };
        below = All-remove (λ rank. rank < added) ranks at ranked.below;
      }

-- numbers that rise below a bound are at most so many
pub rising-few : (nodes : List Node) (low bound : ℕ) → ((i : ℕ) (d : Node) → i < length nodes → low ≤ (get_or nodes i d).number) → Rises nodes → All (λ n. n.number < bound) nodes → low ≤ bound → low + length nodes ≤ bound
rising-few [] low bound least rises below le = omega arith
rising-few (n ∷ nodes) low bound least rises below le =
    let here : low ≤ n.number = least 0 n (omega arith) in
    let less : n.number < bound = below 0 n (omega arith) in
    let rest : n.number + 1 + length nodes ≤ bound =
    rising-few nodes (n.number + 1) bound (λ i d h. let above : n.number < (get_or nodes i d).number = rises 0 (suc i) d (omega arith) (omega arith) in omega arith)
    (λ i j d lt h. rises (suc i) (suc j) d (omega arith) (omega arith)) (λ i d h. below (suc i) d (omega arith)) (omega arith) in
    omega arith

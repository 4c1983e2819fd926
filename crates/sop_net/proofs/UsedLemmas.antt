-- Used wires in turn, and their sources.
use Rattle.std.proofs.Common.{◌≡◌, ap, sym, refl, ◌∙◌, subst, ℕ, zero, suc, ◌+◌, ◌-◌, ◌<◌, List, [], ◌∷◌, ◌++◌, length, take, get_or, arith, add-one}
use Rattle.std.specs.Prelude.{Option, None, Some, Contains}
use Rattle.sop_net.specs.Graph.{Within}
use Rattle.sop_net.specs.declared.node.Node.{Node}
use Rattle.sop_net.specs.Network.{node_of, wired, wire_at, used_wires, used_sources}

pub first_is : (x : ℕ) (xs : List ℕ) → Contains (x ∷ xs) x
first_is x xs = (0, omega arith, refl)

pub further : (x y : ℕ) (xs : List ℕ) → Contains xs y → Contains (x ∷ xs) y
further x y xs h = let lt = h.1 in (suc h.0, omega (arith, lt), h.2)

-- a wire's source is among the wired ones
pub wired_at : (wires : List (Option ℕ)) (i source : ℕ) → wire_at wires i ≡ Some source → Contains (wired wires) source
wired_at [] i source h = absurd (no h)
  where
    no : None ≡ Some source → ⊥
    no e = cc
wired_at (None ∷ wires) zero source h = let no : ⊥ = cc in absurd no
wired_at (Some s ∷ wires) zero source h = let same : s ≡ source = cc in subst (λ t. Contains (s ∷ wired wires) t) same (first_is s (wired wires))
wired_at (None ∷ wires) (suc i) source h = wired_at wires i source h
wired_at (Some s ∷ wires) (suc i) source h = further s source (wired wires) (wired_at wires i source h)

-- a source is within one step less
pub within_less : (f : ℕ → List ℕ) (left x y : ℕ) → Within f left x → Contains (f x) y → (0 < left) × Within f (left - 1) y
within_less f zero x y within h = absurd within
within_less f (suc left) x y within h = let less : suc left - 1 ≡ left = omega arith in (omega arith, subst (λ k. Within f k y) (sym less) (within y h))

-- a used wire's source is one step nearer to the end
pub source_used : (nodes : List Node) (x i source : ℕ) → wire_at (used_wires (node_of nodes x)) i ≡ Some source → Contains (used_sources nodes x) source
source_used nodes x i source wire = wired_at (used_wires (node_of nodes x)) i source wire

pub source_within : (nodes : List Node) (left x i source : ℕ) → Within (used_sources nodes) left x → wire_at (used_wires (node_of nodes x)) i ≡ Some source
    → (0 < left) × Within (used_sources nodes) (left - 1) source
source_within nodes left x i source within wire = within_less (used_sources nodes) left x source within (source_used nodes x i source wire)

-- the sources of the first wires, where the next isn't wired
pub wired-past : (wires : List (Option ℕ)) (i : ℕ) → wire_at wires i ≡ None → wired (take (i + 1) wires) ≡ wired (take i wires)
wired-past wires i here = ap (λ k. wired (take k wires)) (add-one i) ∙ by wires i here
  where
    by : (wires : List (Option ℕ)) (i : ℕ) → wire_at wires i ≡ None → wired (take (suc i) wires) ≡ wired (take i wires)
    by [] zero h = refl
    by [] (suc i) h = refl
    by (None ∷ wires) zero h = refl
    by (Some s ∷ wires) zero h = let no : ⊥ = cc in absurd no
    by (None ∷ wires) (suc i) h = by wires i h
    by (Some s ∷ wires) (suc i) h = ap (λ l. s ∷ l) (by wires i h)

-- the sources of the first wires, where the next is wired
pub wired-more : (wires : List (Option ℕ)) (i source : ℕ) → wire_at wires i ≡ Some source → wired (take (i + 1) wires) ≡ wired (take i wires) ++ source ∷ []
wired-more wires i source here = ap (λ k. wired (take k wires)) (add-one i) ∙ by wires i here
  where
    by : (wires : List (Option ℕ)) (i : ℕ) → wire_at wires i ≡ Some source → wired (take (suc i) wires) ≡ wired (take i wires) ++ source ∷ []
    by [] i h = let no : ⊥ = cc in absurd no
    by (None ∷ wires) zero h = let no : ⊥ = cc in absurd no
    by (Some s ∷ wires) zero h = let same : s ≡ source = cc in ap (λ t. t ∷ []) same
    by (None ∷ wires) (suc i) h = by wires i h
    by (Some s ∷ wires) (suc i) h = ap (λ l. s ∷ l) (by wires i h)

-- a wire, as the code reads it
pub wire_read : (used wires : List (Option ℕ)) (i : ℕ) (wire : Option ℕ) → wires ≡ used → i < length wires → wire ≡ get_or wires i wire → wire_at used i ≡ wire
wire_read used wires i wire same h read = ap (λ l. wire_at l i) (sym same) ∙ by wires i h ∙ sym read
  where
    by : (wires : List (Option ℕ)) (i : ℕ) → i < length wires → wire_at wires i ≡ get_or wires i wire
    by [] i h = absurd (omega arith)
    by (first ∷ wires) zero h = refl
    by (first ∷ wires) (suc i) h = by wires i (omega arith)

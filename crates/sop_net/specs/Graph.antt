-- Graphs as functions: `f x` lists the nodes that x takes from.
use Rattle.std.specs.Prelude.{◌≡◌, ℕ, zero, suc, List, Bool, false, ◌||◌, ◌==◌, Contains}
use Rattle.std.specs.List.{list_any}

-- y is met so many steps upstream of x
abbrev pub Steps : (ℕ → List ℕ) → ℕ → ℕ → ℕ → Type 0
Steps f zero x y = x ≡ y
Steps f (suc k) x y = (m : ℕ) × (Contains (f x) m × Steps f k m y)

-- y is x or upstream of x
abbrev pub Reaches : (ℕ → List ℕ) → ℕ → ℕ → Type 0
Reaches f x y = (k : ℕ) × Steps f k x y

-- y is upstream of x
abbrev pub Upstream : (ℕ → List ℕ) → ℕ → ℕ → Type 0
Upstream f x y = (k : ℕ) × Steps f (suc k) x y

-- no node is upstream of itself
abbrev pub HasNoCycle : (ℕ → List ℕ) → Type 0
HasNoCycle f = (x : ℕ) → Upstream f x x → ⊥

-- each way upstream from x ends in fewer than k steps
abbrev pub Within : (ℕ → List ℕ) → ℕ → ℕ → Type 0
Within f zero x = ⊥
Within f (suc k) x = (y : ℕ) → Contains (f x) y → Within f k y

-- whether y is met in fewer than k steps from x
abbrev pub searched : ℕ → (ℕ → List ℕ) → ℕ → ℕ → Bool
searched zero f x y = false
searched (suc k) f x y = (x == y) || list_any (λ m. searched k f m y) (f x)

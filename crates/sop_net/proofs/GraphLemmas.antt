-- Ways upstream: how long they are, and the search that finds them.
use Rattle.std.proofs.Common.{◌≡◌, sym, ap, subst, refl, ℕ, zero, suc, ◌+◌, ◌⊎◌, inl, inr, List, [], ◌∷◌, true, false, ◌||◌, ◌==◌, IsTrue, length, arith, eq-eqb}
use Rattle.std.specs.Prelude.{Contains}
use Rattle.std.specs.List.{list_any}
use Rattle.std.proofs.lemmas.Bool.{eqb-true}
use Rattle.sop_net.specs.Graph.{Steps, Reaches, Upstream, Within, searched}
use Rattle.sop_net.specs.Order.{In, IsOrdered}
use Rattle.sop_net.proofs.Membership.{contains-in, in-contains, any-in, any-out, any-same}

pub within-more : (f : ℕ → List ℕ) (k x : ℕ) → Within f k x → Within f (suc k) x
within-more f zero x w = absurd w
within-more f (suc k) x w = λ y i. within-more f k y (w y i)

pub within-up : (f : ℕ → List ℕ) (d k n x : ℕ) → d + k ≡ n → Within f k x → Within f n x
within-up f zero k n x e w = let same : k ≡ n = omega arith in subst (λ m. Within f m x) same w
within-up f (suc d) k n x e w = within-up f d (suc k) n x (omega arith) (within-more f k x w)

-- fewer wires keep the bound
pub within-fewer : (f g : ℕ → List ℕ) → ((x y : ℕ) → Contains (g x) y → Contains (f x) y) → (k x : ℕ) → Within f k x → Within g k x
within-fewer f g fewer zero x w = absurd w
within-fewer f g fewer (suc k) x w = λ y i. within-fewer f g fewer k y (w y (fewer x y i))

-- in an order a way upstream is no longer than the order
within-ordered : (f : ℕ → List ℕ) (before order : List ℕ) (k n x : ℕ) → IsOrdered f before order → ((y : ℕ) → In before y → Within f k y) → k + length order ≡ n → In before x ⊎ In order x → Within f n x
within-ordered f before [] k n x o b e (inl i) = within-up f 0 k n x (omega arith) (b x i)
within-ordered f before [] k n x o b e (inr i) = absurd i
within-ordered f before (z ∷ order) k n x o b e i =
    let here : Within f (suc k) z = λ y c. b y (o.0 y (contains-in (f z) y c)) in
    within-ordered f (z ∷ before) order (suc k) n x o.1
    (λ y j. elim j [ inl q ↦ subst (λ v. Within f (suc k) v) q here | inr old ↦ within-more f k y (b y old) ])
    (omega arith)
    (elim i [ inl old ↦ inl (inr old) | inr new ↦ elim new [ inl q ↦ inl (inl q) | inr later ↦ inr later ] ])

pub within-order : (f : ℕ → List ℕ) (order : List ℕ) (x : ℕ) → IsOrdered f [] order → In order x → Within f (length order) x
within-order f order x o i = within-ordered f [] order 0 (length order) x o (λ y none. absurd none) (omega arith) (inr i)

-- one step more at the far end
pub steps-end : (f : ℕ → List ℕ) (k x y z : ℕ) → Steps f k x y → Contains (f y) z → Steps f (suc k) x z
steps-end f zero x y z e i = (z, (subst (λ v. Contains (f v) z) (sym e) i, refl))
steps-end f (suc k) x y z (m, (i, s)) j = (m, (i, steps-end f k m y z s j))

-- a node within a bound is not upstream of itself
pub no-cycle : (f : ℕ → List ℕ) (k x : ℕ) → Within f k x → Upstream f x x → ⊥
no-cycle f zero x w u = absurd w
no-cycle f (suc k) x w (j, (m, (i, s))) = no-cycle f k m (w m i) (j, steps-end f j m x m s i)

-- within the bound the search finds exactly what is reached
pub searched-true : (f : ℕ → List ℕ) (k j x y : ℕ) → Within f k x → Steps f j x y → IsTrue (searched k f x y)
searched-true f zero j x y w s = absurd w
searched-true f (suc k) zero x y w s = let h : (x == y) ≡ true = eq-eqb x y s in rw h refl
searched-true f (suc k) (suc j) x y w (m, (i, s)) =
    let h : list_any (λ v. searched k f v y) (f x) ≡ true = any-in (λ v. searched k f v y) (f x) m (contains-in (f x) m i) (searched-true f k j m y (w m i) s) in
    elim (x == y) as (λ b. (b || list_any (λ v. searched k f v y) (f x)) ≡ true) [ true ↦ refl | false ↦ h ]

pub searched-reaches : (f : ℕ → List ℕ) (k x y : ℕ) → IsTrue (searched k f x y) → Reaches f x y
searched-reaches f zero x y h = absurd (cc)
searched-reaches f (suc k) x y h =
    (elim (x == y) as (λ b. (x == y) ≡ b → (b || list_any (λ v. searched k f v y) (f x)) ≡ true → Reaches f x y) [
      | true ↦ λ e g. (0, eqb-true x y e)
      | false ↦ λ e g.
          let (m, (i, t)) : (m : ℕ) × (In (f x) m × IsTrue (searched k f m y)) = any-out (λ v. searched k f v y) (f x) g in
          let (j, s) : Reaches f m y = searched-reaches f k m y t in (suc j, (m, (in-contains (f x) m i, s)))
    ]) refl h

-- within the bound one step more changes nothing
searched-more : (f : ℕ → List ℕ) (k x y : ℕ) → Within f k x → searched k f x y ≡ searched (suc k) f x y
searched-more f zero x y w = absurd w
searched-more f (suc k) x y w =
    ap (λ found. (x == y) || found) (any-same (λ m. searched k f m y) (λ m. searched (suc k) f m y) (f x) (λ m i. searched-more f k m y (w m (in-contains (f x) m i))))

-- so the search speaks of no bound
pub searched-step : (f : ℕ → List ℕ) (k x y : ℕ) → Within f k x → searched k f x y ≡ ((x == y) || list_any (λ m. searched k f m y) (f x))
searched-step f k x y w = searched-more f k x y w

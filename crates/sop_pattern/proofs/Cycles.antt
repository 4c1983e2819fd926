-- The first of each so many elements, marked run by run.
use Rattle.std.proofs.Common.{◌≡◌, ℕ, ◌+◌, ◌-◌, ◌*◌, ◌%◌, ◌/◌, ◌<◌, ◌≤◌, Bool, true, false, List, length, get_or, sym, ap, ◌∙◌, arith, inl, inr}
use Rattle.std.specs.Prelude.{◌&&◌, nat_le, nat_lt, min}
use Rattle.std.proofs.lemmas.Bool.{cases_lt, lt-ltb, le-ltb, le-leb, lt-leb, and_right}
use Rattle.std.proofs.lemmas.Nat.{mod-mul-add, div-add-mod'}
use Rattle.sop_pattern.specs.Marks.{marked, is_in_cycle}

-- Up to `start` the flags below `end` are marked, and all others are as they were.
pub record Cycled (first last taken every end : ℕ) (to : Bool) (start : ℕ) (old now : List Bool) : Type 0 where
  pub done : (k : ℕ) → k < end → k < start → get_or now k false ≡ marked to (is_in_cycle first last taken every k) (get_or old k false)
  pub rest : (k : ℕ) → k < length old → start ≤ k → get_or now k false ≡ get_or old k false
  pub above : (k : ℕ) → k < length old → end ≤ k → get_or now k false ≡ get_or old k false
  pub from : first ≤ start
  pub turn : start < end → (start - first) % every ≡ 0

-- the place of a number in its turn
place_in : (first start every k : ℕ) → first ≤ start → (start - first) % every ≡ 0 → start ≤ k → k < start + every → (k - first) % every ≡ k - start
place_in first start every k from turn low high =
    let whole : (start - first) / every * every + (start - first) % every ≡ start - first = div-add-mod' (start - first) every in
    let e : k - first ≡ (start - first) / every * every + (k - start) = omega arith in
    ap (λ x. x % every) e ∙ mod-mul-add ((start - first) / every) every (k - start) (omega arith)

in_turn : (first last taken every start k : ℕ) → 0 < every → first ≤ start → (start - first) % every ≡ 0 → start ≤ k → k < start + every → k ≤ last
    → is_in_cycle first last taken every k ≡ nat_lt (k - start) taken
in_turn first last taken every start k some from turn low high within =
    let place = place_in first start every k from turn low high in
    let over : nat_le first k ≡ true = le-leb first k (omega arith) in
    let under : nat_le k last ≡ true = le-leb k last within in
    rw (over, under, place)

in_run : (taken every start end stop most k : ℕ) → stop ≡ min (min (start + min taken every) most) end → end ≤ most → start ≤ k → k < start + every → k < end
    → (nat_le start k && nat_lt k stop) ≡ nat_lt (k - start) taken
in_run taken every start end stop most k is within low high inside =
    let over : nat_le start k ≡ true = le-leb start k low in
    elim (cases_lt k stop) [
      | inl less ↦ (let yes : nat_lt k stop ≡ true = lt-ltb k stop less in let here : nat_lt (k - start) taken ≡ true = lt-ltb (k - start) taken (omega arith) in rw (over, yes, here))
      | inr more ↦ (let not_yet : nat_lt k stop ≡ false = le-ltb k stop more in let past : nat_lt (k - start) taken ≡ false = le-ltb (k - start) taken (omega arith) in rw (over, not_yet, past))
    ]

out_of_run : (start stop k : ℕ) → (stop ≤ k) → (nat_le start k && nat_lt k stop) ≡ false
out_of_run start stop k h = and_right (nat_le start k) (nat_lt k stop) (le-ltb k stop h)

before_run : (start stop k : ℕ) → k < start → (nat_le start k && nat_lt k stop) ≡ false
before_run start stop k h = let e : nat_le start k ≡ false = lt-leb start k h in rw e

module _ (first last taken every len most : ℕ) (to : Bool) (start end stop after : ℕ) (old now next : List Bool)
    (end_is : end ≡ min (min (last + 1) most) len) (stop_is : stop ≡ min (min (start + min taken every) most) end) (after_is : after ≡ min (start + every) most)
    (inside : start < end) (some : 0 < every) (length_now : length now ≡ length old) (length_old : length old ≡ len)
    (run : (k : ℕ) → k < length now → get_or next k false ≡ marked to (nat_le start k && nat_lt k stop) (get_or now k false))
    (before : Cycled first last taken every end to start old now) where
  kept : (k : ℕ) → k < length old → (nat_le start k && nat_lt k stop) ≡ false → get_or next k false ≡ get_or now k false
  kept k lt out = run k (omega arith) ∙ ap (λ b. marked to b (get_or now k false)) out

  cycled_done : (k : ℕ) → k < end → k < after → get_or next k false ≡ marked to (is_in_cycle first last taken every k) (get_or old k false)
  cycled_done k within less = elim (cases_lt k start) [
    | inl earlier ↦ kept k (omega arith) (before_run start stop k earlier) ∙ before.done k within earlier
    | inr later ↦
        run k (omega arith)
        ∙ ap (λ b. marked to b (get_or now k false)) (in_run taken every start end stop most k stop_is (omega arith) later (omega arith) within ∙ sym (in_turn first last taken every start k some before.from (before.turn inside) later (omega arith) (omega arith)))
        ∙ ap (marked to (is_in_cycle first last taken every k)) (before.rest k (omega arith) later)
  ]

  next_turn : after < end → (after - first) % every ≡ 0
  next_turn less =
      let whole : (start - first) / every * every + (start - first) % every ≡ start - first = div-add-mod' (start - first) every in
      let zero_here : (start - first) % every ≡ 0 = before.turn inside in
      let e : after - first ≡ (start - first) / every * every + every = omega (arith, before.from) in
      ap (λ x. x % every) e ∙ turned ((start - first) / every) every some
    where
      turned : (q n : ℕ) → 0 < n → (q * n + n) % n ≡ 0
      turned q n pos = let f : q * n + n ≡ (q + 1) * n + 0 = omega arith in ap (λ x. x % n) f ∙ mod-mul-add (q + 1) n 0 pos

  pub cycled_more : Cycled first last taken every end to after old next
  cycled_more = record {
    done = cycled_done;
    rest = λ k lt h. kept k lt (out_of_run start stop k (omega arith)) ∙ before.rest k lt (omega arith);
    above = λ k lt h. kept k lt (out_of_run start stop k (omega arith)) ∙ before.above k lt h;
    from = omega (arith, before.from);
    turn = next_turn;
  }

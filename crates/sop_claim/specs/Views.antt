-- What a pass knows of its board, and how each call on the board changes that.
use Rattle.std.specs.Prelude.{◌≡◌, ℕ, ◌+◌, ◌-◌, ◌<◌, ◌≤◌, ◌==◌, List, [], ◌∷◌, ◌++◌, if◌then◌else◌}
use Rattle.sop_claim.specs.declared.rule.View.{View}

-- how often x stands in the list
abbrev pub times : ℕ → List ℕ → ℕ
times x [] = 0
times x (y ∷ ys) = (if y == x then 1 else 0) + times x ys

-- how often the pass has settled ticket x
abbrev pub settled : ℕ → View → ℕ
settled x v = times x v.done + times x v.faulty + times x v.skipped

-- the pass drew ticket k, and has not settled it
abbrev pub IsHeld : View → ℕ → Type 0
IsHeld v k = (1 ≤ times k v.drawn) × (settled k v ≡ 0)

-- the pass has loaded a least below k
abbrev pub HasLoadedBelow : View → ℕ → Type 0
HasLoadedBelow v k = (seen : ℕ) × (seen < k) × (1 ≤ times seen v.loaded)

-- the pass has reported x, or loaded it as the least
abbrev pub HasTold : View → ℕ → Type 0
HasTold v x = 1 ≤ times x v.faulty + times x v.loaded

-- each ticket that the pass has drawn is less than k
abbrev pub IsAfter : View → ℕ → Type 0
IsAfter v k = (x : ℕ) → 1 ≤ times x v.drawn → x < k

-- a share is a room and the draws on it that found nothing
abbrev pub share : View → ℕ
share v = v.room + v.missed

-- a pass of a board of n tickets that knows nothing else
abbrev pub newcomer : ℕ → ℕ → View
newcomer n room = record { n = n; room = room; missed = 0; drawn = []; done = []; faulty = []; skipped = []; loaded = [] }

abbrev pub with_drawn : View → ℕ → View
with_drawn v k = record v { drawn = v.drawn ++ k ∷ [] }

-- one draw more found nothing, which takes one from the room
abbrev pub with_miss : View → View
with_miss v = record v { room = v.room - 1; missed = v.missed + 1 }

abbrev pub with_faulty : View → ℕ → View
with_faulty v k = record v { faulty = v.faulty ++ k ∷ [] }

abbrev pub with_loaded : View → ℕ → View
with_loaded v least = record v { loaded = v.loaded ++ least ∷ [] }

abbrev pub with_done : View → ℕ → View
with_done v k = record v { done = v.done ++ k ∷ [] }

abbrev pub with_skipped : View → ℕ → View
with_skipped v k = record v { skipped = v.skipped ++ k ∷ [] }

-- a pass that gave 1 of its room, and with it 1 of its share, to another
abbrev pub with_less_room : View → View
with_less_room v = record v { room = v.room - 1 }

-- what two passes know, in one
abbrev pub joined : View → View → View
joined v w = record {
  n = v.n;
  room = v.room + w.room;
  missed = v.missed + w.missed;
  drawn = v.drawn ++ w.drawn;
  done = v.done ++ w.done;
  faulty = v.faulty ++ w.faulty;
  skipped = v.skipped ++ w.skipped;
  loaded = v.loaded ++ w.loaded;
}

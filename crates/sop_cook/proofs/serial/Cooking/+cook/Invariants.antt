use Rattle.std.proofs.Common.{◌≡◌, ◌+◌, ◌*◌, ◌≤◌, length, vec_len, vec_capacity}
use Rattle.std.specs.Prelude.{All, IsTrue, IsSome}
use Rattle.sop_cook.specs.Cooking.{gives}
use Rattle.sop_cook.specs.Keys.{inputs_at}
use Rattle.sop_cook.proofs.CookLemmas.{Asked}
use Rattle.sop_cook.proofs.HandLemmas.{Gathered}
use Rattle.sop_cook.proofs.serial.Cooking.+cook.Given as goal

abbrev pub decreases-give : goal.decreases-give
decreases-give l = 4 * l.left + 3

abbrev pub decreases-visit : goal.decreases-visit
decreases-visit l = 4 * l.left + 2

abbrev pub decreases-gather : goal.decreases-gather
decreases-gather l = 4 * l.left + 1

abbrev pub decreases-ask : goal.decreases-ask
decreases-ask l = 4 * l.left

abbrev pub invariant-gather-loop-i : goal.invariant-gather-loop-i
invariant-gather-loop-i l = record {
  room : vec_len l.inputs + length l.wires ≤ vec_capacity l.inputs + l.i;
  many : length l.inputs.items ≡ l.i;
  few : l.i ≤ length l.wires;
  filled : All (λ key. IsTrue l.are_needed → IsSome key) l.inputs.items;
  hands : Gathered l.fn.self l.fn.vault l.self l.vault l.inputs.items;
  asked : Asked (gives l.fn.self) l.node l.first l.are_needed l.wires l.i (inputs_at l.vault l.inputs.items);
}

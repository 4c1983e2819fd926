use Rattle.std.proofs.Common.{◌≡◌, ◌*◌, ◌<◌, ◌≤◌, ℕ, false, length, arith}
use Rattle.std.specs.Prelude.{slice_index_or}
use Rattle.std.proofs.lemmas.Result.{IfOk-at_ok}
use Rattle.sop_cells.specs.Shelves.{Shifts}
use Rattle.sop_columns.specs.Bits.{flag, placed, AreBits}
use Rattle.sop_tables.proofs.MadeLemmas.{ok_of}
use Rattle.sop_tables.proofs.BesideLemmas.{group_made}
use Rattle.sop_tables.proofs.beside.picked_members.Goals as goal

pub returns-clause-made : goal.returns-clause-made
returns-clause-made c =
    let s = c.args.shelf.now in let t = c.picked.new.shelf in let numbers = c.args.numbers.now in
    ok_of _ (λ new e. group_made s t (length numbers) (λ i. flag s c.args.members.now (slice_index_or numbers i 0)) new c.requires.few
    (IfOk-at_ok (λ x. Shifts s t _ (placed x)) e c.picked.ensures.shifts)
    (IfOk-at_ok (AreBits t) e c.picked.ensures.bits)
    (IfOk-at_ok (λ x. (k : ℕ) → k < length numbers → flag t x k ≡ flag s c.args.members.now (slice_index_or numbers k 0)) e c.picked.ensures.flags)
    (IfOk-at_ok (λ x. (k : ℕ) → length numbers ≤ k → flag t x k ≡ false) e c.picked.ensures.beyond)
    (IfOk-at_ok (λ x. (n : ℕ) → length numbers ≤ 131072 * n → length x ≤ n) e c.picked.ensures.few 31 (let m = c.requires.few in omega arith)))

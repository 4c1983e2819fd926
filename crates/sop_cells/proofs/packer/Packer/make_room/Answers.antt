use Rattle.std.proofs.Common.{◌≡◌, ◌∙◌, ◌++◌, ◌∷◌, [], List, length, ap, sym, subst, arith}
use Rattle.std.proofs.lemmas.List.{append-nil}
use Rattle.sop_pages.specs.declared.cell.Cell.{Cell}
use Rattle.sop_cells.specs.Shelves.{joined}
use Rattle.sop_cells.specs.Layouts.{packed_cells, AreFull}
use Rattle.sop_cells.proofs.PageLists.{full-append, joined_last}
use Rattle.sop_cells.proofs.packer.Packer.make_room.Goals as goal
use Rattle.sop_cells.proofs.packer.Packer.make_room.Goals.{In_ok-push}

after : (c : In_ok-push) → c.push.new.self.items ≡ c.self.inside.full.items ++ c.self.inside.rest.items ∷ []
after c = c.in_ok-push.ensures.items ∙ (λ i. c.self.inside.full.items ++ (c.from_vec.ensures ∙ ap (λ v. v.items) c.replace-cells.ensures.value) i ∷ [])

pub invariant_of-self-2 : goal.invariant_of-self-2
invariant_of-self-2 c = (
  subst AreFull (sym (after (goal.at.invariant_of-self-2 c).In_ok-push)) (full-append c.self.inside.full.items (c.self.inside.rest.items ∷ []) c.self.invariant.0
      ((let l = c.self.inside.rest.ok.0 in let m = c.len.ensures in let n = c.if-len-most.false in let k = c.self.invariant.1 in omega arith), tt)),
  let e = ap (λ (cs : List Cell). length cs) (ap (λ v. v.items) c.replace-cells.ensures.after ∙ c.in_ok-next.ensures.items) in omega arith,
)

pub returns-clause-cells : goal.returns-clause-cells
returns-clause-cells c =
    (λ i. joined (after (goal.at.returns-clause-cells c).In_ok-push i) ++ (ap (λ v. v.items) c.replace-cells.ensures.after ∙ c.in_ok-next.ensures.items) i)
    ∙ append-nil _ ∙ joined_last c.self.inside.full.items c.self.inside.rest.items ∙ ap packed_cells c.self.view_is

use Rattle.std.proofs.Common.{◌∙◌, ◌++◌, ◌∷◌, [], ap, sym, subst, rules}
use Rattle.sop_cells.specs.Shelves.{joined, IsPaged}
use Rattle.sop_cells.specs.Layouts.{packed_cells}
use Rattle.sop_cells.proofs.PageLists.{paged_none, paged_last, joined_last}
use Rattle.sop_cells.proofs.packer.Packer.finish.Goals as goal

pub returns-then-is_empty-clause-paged : goal.returns-then-is_empty-clause-paged
returns-then-is_empty-clause-paged c = subst IsPaged (sym c.from_vec.ensures) (paged_none c.self.inside.full.items c.self.invariant.0)

pub returns-clause-cells : goal.returns-clause-cells
returns-clause-cells c =
    ap joined (c.from_vec-3.ensures ∙ c.in_ok-push.ensures.items ∙ (λ i. c.self.inside.full.items ++ c.from_vec-2.ensures i ∷ [])) ∙ joined_last c.self.inside.full.items c.self.inside.rest.items ∙ ap packed_cells c.self.view_is

pub returns-clause-paged : goal.returns-clause-paged
returns-clause-paged c =
    subst IsPaged (sym (c.from_vec-3.ensures ∙ c.in_ok-push.ensures.items ∙ (λ i. c.self.inside.full.items ++ c.from_vec-2.ensures i ∷ [])))
    (paged_last c.self.inside.full.items c.self.inside.rest.items c.self.invariant.0 (search rules))

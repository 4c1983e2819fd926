use Rattle.sop_model.proofs.LimitsLemmas.{IsWithin-from, within_heads, within_groups}
use Rattle.sop_vault.proofs.loading.is_within.Goals as goal

pub returns-then-are_elements_few : goal.returns-then-are_elements_few
returns-then-are_elements_few c =
    let few = c.are_elements_few.ensures.0 c.if-are_elements_few.true in (
      λ t. let sets = c.are_sets_few.ensures.0 t in IsWithin-from c.args.rows.now few.0 few.1.0 few.1.1 (λ class. (sets class).0) (λ class. (sets class).1.0),
      λ within. c.are_sets_few.ensures.1 (λ class. (within_heads within class, (within_groups within class, tt))),
    )

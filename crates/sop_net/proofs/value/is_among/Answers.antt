use Rattle.std.proofs.Common.{◌∙◌, ℕ, List, rules, Bor, tests}
use Rattle.std.specs.Prelude.{bytes_eq}
use Rattle.std.proofs.lemmas.Iterator.{YieldsList-from_slice}
use Rattle.std.proofs.lemmas.Iterator.Search.{any_from_yields_List}
use Rattle.sop_net.proofs.Searches.{any-map}
use Rattle.sop_net.proofs.value.is_among.Goals as goal

pub returns : goal.returns
returns c =
    any_from_yields_List (λ (word : Bor (List ℕ)). bytes_eq word.now c.args.text.now) _ _ _ c.any.ensures.ran
    (YieldsList-from_slice c.args.words.now c.iter.ensures.rest) (search (rules, tests))
    ∙ any-map (λ (word : Bor (List ℕ)). word.now) (λ word. bytes_eq word c.args.text.now) c.args.words.now

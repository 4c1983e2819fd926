use Rattle.std.proofs.Common.{◌≡◌, ℕ, List, Some, string_bytes, ap, ◌∙◌}
use Rattle.std.proofs.lemmas.Map.Text.{btree_map_updates_text}
use Rattle.std.specs.BTreeMap.{get_by_text}
use Rattle.hscript_text.specs.Pieces.{with_variable}
use Rattle.hscript_text.specs.Parts.{variables_of}
use Rattle.hscript_text.proofs.variables.Variables.set.Goals as goal

pub returns-clause-ok : goal.returns-clause-ok
returns-clause-ok c =
    let old = c.args.self.now in
    let same : (other : List ℕ) → get_by_text c.insert.new.self other ≡ with_variable (variables_of old) (string_bytes c.in_ok-name.name) c.args.text other =
    λ other. btree_map_updates_text (string_bytes c.in_ok-name.name) old.texts c.insert.new.self (Some c.args.text) c.in_ok-insert.ensures.updates other in
    let set : (λ (other : List ℕ). get_by_text c.insert.new.self other) ≡ with_variable (variables_of old) (string_bytes c.in_ok-name.name) c.args.text = λ i other. same other i in
    set ∙ ap (λ name. with_variable (variables_of old) name c.args.text) c.in_ok-name.ensures.ok

use Rattle.std.proofs.Common.{◌≡◌, ℕ, List, [], ◌++◌, ◌∙◌, ap, sym, subst}
use Rattle.std.specs.Prelude.{Option, Result, Ok, Err, IfErr}
use Rattle.sop_model.specs.declared.fault.Fault.{Fault}
use Rattle.sop_model.specs.declared.fault.Fault.TheVariants as fault
use Rattle.sop_cook.specs.declared.cook_end.CookEnd.{CookEnd}
use Rattle.sop_cook.specs.declared.cook_end.CookEnd.TheVariants as end
use Rattle.sop_basic.specs.Loads.{file_in}
use Rattle.sop_cook.specs.Visit.{Outcome, failed}
use Rattle.sop_cook.specs.SerialCook.{cook_of}
use Rattle.sop_cook.specs.Laws.{IsMissing}
use Rattle.sop_vault.specs.Vaults.{VaultMap}
use Rattle.sop_cook.specs.Ends.{Tells, IsAtLive, HasNamedNode, seen}
use Rattle.sop_cook.specs.Keys.{keys_in, key_of}
use Rattle.sop_cook.specs.Cooking.{keys_of}
use Rattle.sop_cook.proofs.HandLemmas.{made_seen, end_stay, end_added, end_before}
use Rattle.sop_vault.specs.Passing.{Passes, Owns}
use Rattle.sop_vault.proofs.PassLemmas.{passes_none, owns_none, owns_back, before_from}
use Rattle.sop_cook.proofs.KeptLemmas.{kept_none, none_in}
use Rattle.sop_cook.proofs.SerialCookLemmas.{failure_live, failure_named, no_file}
use Rattle.sop_cook.proofs.serial.cook.Goals as goal

-- what holds of each fault that may be told
told_err : (P : CookEnd → Type 0) (outcome : Outcome) (v : VaultMap) (answer : Result ℕ CookEnd) → Tells outcome (seen v answer) → ((x : ℕ) (f : Fault) → outcome ≡ Err (failed x f) → P (end.Fault x f)) → P end.Memory → IfErr answer P
told_err P outcome v (Ok key) tells each memory = tt
told_err P outcome v (Err (end.Fault x f)) tells each memory = each x f tells
told_err P outcome v (Err end.Memory) tells each memory = memory

pub returns-in-Err-clause-err : goal.returns-in-Err-clause-err
returns-in-Err-clause-err c = before_from c.args.vault.now c.args.vault.now c.is_vault.ensures c.is_vault.ensures (passes_none c.args.vault.now [])

pub give-given-requires-clause-running : goal.give-given-requires-clause-running
give-given-requires-clause-running c = kept_none c.args.vault.now (cook_of (file_in c.args.loaded.now) c.args.net.now.nodes) c.args.net.now.nodes c.in-Ok.kept c.in-Ok.ensures.uses c.in-Ok.ensures.keys

pub give-given-requires-clause-owns : goal.give-given-requires-clause-owns
give-given-requires-clause-owns c = subst (Owns c.args.vault.now) (sym (none_in _ c.in-Ok.kept.keys.items c.in-Ok.ensures.keys)) (owns_none c.args.vault.now)

pub drop_all-requires : goal.drop_all-requires
drop_all-requires c =
    subst (λ (keys : List (Option ℕ)). Owns c.give-given.new.vault (keys_in keys)) (sym c.as_slice.ensures.value) (owns_back c.give-given.new.vault (key_of c.give-given.result) (keys_of c.give-given.new.self) c.give-given.ensures.owns)

pub returns-clause-tells : goal.returns-clause-tells
returns-clause-tells c =
    let v = c.give-given.new.vault in
    let kept = keys_of c.give-given.new.self in
    let none = none_in _ c.in-Ok.kept.keys.items c.in-Ok.ensures.keys in
    let passes = subst (λ (keys : List ℕ). Passes c.args.vault.now keys v (key_of c.give-given.result ++ kept)) none c.give-given.ensures.passes in
    let gone = subst (λ (keys : List (Option ℕ)). Passes v (keys_in keys) c.drop_all.new.vault []) c.as_slice.ensures.value c.drop_all.ensures in
    subst (Tells (cook_of (file_in c.args.loaded.now) c.args.net.now.nodes c.args.node))
    (sym (made_seen v c.drop_all.new.vault c.give-given.result [] (end_stay c.args.vault.now v c.drop_all.new.vault c.give-given.result kept passes c.give-given.ensures.owns gone)).0) c.give-given.ensures.tells

pub returns-clause-ready : goal.returns-clause-ready
returns-clause-ready c =
    let v = c.give-given.new.vault in
    let kept = keys_of c.give-given.new.self in
    let none = none_in _ c.in-Ok.kept.keys.items c.in-Ok.ensures.keys in
    let passes = subst (λ (keys : List ℕ). Passes c.args.vault.now keys v (key_of c.give-given.result ++ kept)) none c.give-given.ensures.passes in
    let gone = subst (λ (keys : List (Option ℕ)). Passes v (keys_in keys) c.drop_all.new.vault []) c.as_slice.ensures.value c.drop_all.ensures in
    (made_seen v c.drop_all.new.vault c.give-given.result [] (end_stay c.args.vault.now v c.drop_all.new.vault c.give-given.result kept passes c.give-given.ensures.owns gone)).1 c.give-given.ensures.ready

pub returns-clause-added : goal.returns-clause-added
returns-clause-added c =
    let v = c.give-given.new.vault in
    let kept = keys_of c.give-given.new.self in
    let none = none_in _ c.in-Ok.kept.keys.items c.in-Ok.ensures.keys in
    let passes = subst (λ (keys : List ℕ). Passes c.args.vault.now keys v (key_of c.give-given.result ++ kept)) none c.give-given.ensures.passes in
    let gone = subst (λ (keys : List (Option ℕ)). Passes v (keys_in keys) c.drop_all.new.vault []) c.as_slice.ensures.value c.drop_all.ensures in
    end_added c.args.vault.now v c.drop_all.new.vault c.give-given.result kept passes c.give-given.ensures.owns gone c.is_vault.ensures c.is_vault-2.ensures

pub returns-clause-err : goal.returns-clause-err
returns-clause-err c =
    let v = c.give-given.new.vault in
    let kept = keys_of c.give-given.new.self in
    let none = none_in _ c.in-Ok.kept.keys.items c.in-Ok.ensures.keys in
    let passes = subst (λ (keys : List ℕ). Passes c.args.vault.now keys v (key_of c.give-given.result ++ kept)) none c.give-given.ensures.passes in
    let gone = subst (λ (keys : List (Option ℕ)). Passes v (keys_in keys) c.drop_all.new.vault []) c.as_slice.ensures.value c.drop_all.ensures in
    end_before c.args.vault.now v c.drop_all.new.vault c.give-given.result kept passes c.give-given.ensures.owns gone c.is_vault.ensures c.is_vault-2.ensures

pub returns-clause-at : goal.returns-clause-at
returns-clause-at c =
    let files = file_in c.args.loaded.now in
    let nodes = c.args.net.now.nodes in
    told_err (IsAtLive nodes) (cook_of files nodes c.args.node) c.give-given.new.vault c.give-given.result c.give-given.ensures.tells
    (λ x f is. failure_live files nodes c.args.node (c.is_network.ensures.within_used c.args.node c.requires) c.is_network.ensures.used_live c.requires (failed x f) is) tt

pub returns-clause-no_file : goal.returns-clause-no_file
returns-clause-no_file c =
    let files = file_in c.args.loaded.now in
    let nodes = c.args.net.now.nodes in
    told_err (λ e. (x : ℕ) → e ≡ end.Fault x fault.NoFile → IsMissing files nodes c.args.node x) (cook_of files nodes c.args.node) c.give-given.new.vault c.give-given.result c.give-given.ensures.tells
    (λ y f is x e.
    let same : failed y f ≡ failed x fault.NoFile = cc in
    no_file files nodes c.args.node (c.is_network.ensures.within_used c.args.node c.requires) x (is ∙ ap Err same))
    (λ x e. let no : ⊥ = cc in absurd no)

pub returns-clause-named : goal.returns-clause-named
returns-clause-named c =
    let files = file_in c.args.loaded.now in
    let nodes = c.args.net.now.nodes in
    told_err HasNamedNode (cook_of files nodes c.args.node) c.give-given.new.vault c.give-given.result c.give-given.ensures.tells
    (λ x f is. failure_named files nodes c.args.node (c.is_network.ensures.within_used c.args.node c.requires) (failed x f) is) tt

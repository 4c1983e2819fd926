use Rattle.std.proofs.Common.{◌≡◌, ℕ, inr, ◌∙◌, sym, ap}
use Rattle.std.specs.Prelude.{Option, Some, Ok, unwrap_or}
use Rattle.std.proofs.lemmas.Result.{IfOk-weaker}
use Rattle.sop_model.specs.declared.geo.Geo.{Geo}
use Rattle.sop_model.specs.Geometry.{empty_geo}
use Rattle.sop_model.specs.declared.fault.Fault.TheVariants as fault
use Rattle.sop_outside.specs.Causes.{Rose}
use Rattle.sop_cook.specs.declared.cook_end.CookEnd.{CookEnd}
use Rattle.sop_cook.specs.declared.cook_end.CookEnd.TheVariants as end
use Rattle.sop_basic.specs.Loads.{file_in}
use Rattle.sop_cook.specs.SerialCook.{cook_of}
use Rattle.sopcook.specs.declared.answer.Answer.{Answer}
use Rattle.sopcook.specs.Answer.{cook_answer}
use Rattle.sopcook.specs.Endings.{IsEndAnswer, IsNodeAnswer}
use Rattle.sopcook.proofs.LoadsLemmas.{missing_load, told_answer}
use Rattle.sopcook.proofs.node.answer_node.Goals as goal

-- what is viewed is what stands at the key
viewed : {o : Option Geo} (geo : Geo) → o ≡ Some geo → geo ≡ unwrap_or o empty_geo
viewed {o} geo is = ap (λ (p : Option Geo). unwrap_or p empty_geo) (sym is)

pub returns-in-Ok-clause-ok : goal.returns-in-Ok-clause-ok
returns-in-Ok-clause-ok g c =
    told_answer c.args.form (g.F.Files.told c.args.files.now) c.args.net.now.nodes c.args.node c.in_ok-loaded.loaded c.in_ok-of_geo-in-Ok.field-0 (c.is_network.ensures.within_used c.args.node c.requires) c.cook_runs_visits.ensures.files
    c.in_ok-loaded.ensures.all c.in_ok-loaded.ensures.loads (c.in_ok-of_geo-in-Ok.ensures ∙ ap (λ (geo : Geo). cook_answer c.args.form c.args.net.now.nodes (Ok geo)) (viewed c.view.result c.view.ensures.geo) ∙ ap (cook_answer c.args.form c.args.net.now.nodes) (sym c.in-Ok.ensures.tells))

pub returns-clause-ok : goal.returns-clause-ok
returns-clause-ok g c =
    IfOk-weaker c.answer_end.result _ _ (λ answer is.
    told_answer c.args.form (g.F.Files.told c.args.files.now) c.args.net.now.nodes c.args.node c.in_ok-loaded.loaded answer (c.is_network.ensures.within_used c.args.node c.requires) c.cook_runs_visits.ensures.files
    c.in_ok-loaded.ensures.all c.in_ok-loaded.ensures.loads (is c.args.form (cook_of (file_in c.in_ok-loaded.loaded) c.args.net.now.nodes c.args.node) c.in-Err.ensures.tells)) c.answer_end.ensures.ok

-- the answer of an end, which is NoFile only for a cause
node_answer_of : (e : CookEnd) (missed : Type 0) (answer : Answer) → IsEndAnswer e answer → ((x : ℕ) → e ≡ end.Fault x fault.NoFile → missed) → IsNodeAnswer missed answer
node_answer_of (end.Fault x f) missed answer is cause = inr (f, is, λ no_file. cause x (ap (end.Fault x) no_file))
node_answer_of end.Memory missed answer is cause = absurd is

pub returns-clause-caused : goal.returns-clause-caused
returns-clause-caused g c =
    IfOk-weaker c.answer_end.result _ _ (λ answer is.
    node_answer_of c.in-Err.end (Rose (g.F.Files.misses c.args.files.now) (g.F.Files.misses c.load_needs.new.files)) answer is
    (λ x no_file. c.in_ok-loaded.ensures.missing
    (missing_load c.args.net.now.nodes c.args.node x c.in_ok-loaded.loaded (c.is_network.ensures.within_used c.args.node c.requires) c.in_ok-loaded.ensures.all (c.in-Err.ensures.no_file x no_file))))
    c.answer_end.ensures.fault

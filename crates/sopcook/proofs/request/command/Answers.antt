use Rattle.std.proofs.Common.{◌≡◌, ◌∙◌, ap₂, rules, codes}
use Rattle.std.proofs.lemmas.Result.{IfOk-weaker}
use Rattle.clap.specs.Words.{app_of, rule_of, with_rule}
use Rattle.sopcook.specs.Request.{bare_app, positional, short_option, long_option}
use Rattle.sopcook.proofs.request.command.Goals as goal

pub returns : goal.returns
returns c =
    let script_is : rule_of c.required-script.result ≡ positional (codes "script") = search rules in
    let node_is : rule_of c.required-node.result ≡ positional (codes "node") = search rules in
    let workers_is : rule_of c.short-workers.result ≡ short_option (codes "workers") 106 = search rules in
    let form_is : rule_of c.long-form.result ≡ long_option (codes "form") (codes "form") = search rules in
    let bare_is : app_of c.disable_help_flag.result ≡ bare_app = search rules in
    let one_is : app_of c.in_ok-arg.field-0 ≡ with_rule bare_app (positional (codes "script")) = c.in_ok-arg.ensures.shape (search rules) ∙ ap₂ with_rule bare_is script_is in
    let two_is : app_of c.in_ok-arg-2.field-0 ≡ with_rule (with_rule bare_app (positional (codes "script"))) (positional (codes "node")) = c.in_ok-arg-2.ensures.shape (search rules) ∙ ap₂ with_rule one_is node_is in
    let three_is : app_of c.in_ok-arg-3.field-0 ≡ with_rule (with_rule (with_rule bare_app (positional (codes "script"))) (positional (codes "node"))) (short_option (codes "workers") 106) =
    c.in_ok-arg-3.ensures.shape (search rules) ∙ ap₂ with_rule two_is workers_is in
    IfOk-weaker c.arg-4.result _ _ (λ command added. added.shape (search rules) ∙ ap₂ with_rule three_is form_is) c.arg-4.ensures

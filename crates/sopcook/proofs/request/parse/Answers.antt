use Rattle.std.proofs.Common.{◌≡◌, ◌∙◌, ap, subst, map}
use Rattle.std.specs.Prelude.{string_bytes}
use Rattle.clap.specs.Words.{FailsBy, fault_of, is_simple_and_free}
use Rattle.sopcook.specs.declared.request.RequestEnd.TheVariants.{Refused}
use Rattle.sopcook.specs.Request.{sopcook_app}
use Rattle.sopcook.proofs.RequestLemmas.{app_is_free, untaken_by}
use Rattle.sopcook.proofs.request.parse.Goals as goal

pub returns-in-Err-try_get_matches_from-clause-refused : goal.returns-in-Err-try_get_matches_from-clause-refused
returns-in-Err-try_get_matches_from-clause-refused c = λ is.
    let words = map string_bytes c.args.words.now in
    let refused : c.end_of.result ≡ Refused = cc in
    let fails = c.try_get_matches_from.ensures.kinds (ap is_simple_and_free c.in-Ok.ensures ∙ app_is_free) in
    untaken_by (fault_of sopcook_app words) c.in-Err-try_get_matches_from.error c.try_get_matches_from.result c.in-Err-try_get_matches_from.is (c.end_of.ensures refused)
    (subst (λ app. FailsBy (fault_of app words) c.try_get_matches_from.result) c.in-Ok.ensures fails)

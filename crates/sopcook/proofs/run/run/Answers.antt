use Rattle.std.proofs.Common.{map, rules, subst, refl}
use Rattle.std.specs.Prelude.{string_bytes, IfSome}
use Rattle.sop_outside.specs.Causes.{Rose}
use Rattle.sop_outside.specs.Load.{load_of}
use Rattle.hscript_text.specs.Limits.{most_script_bytes}
use Rattle.sopcook.specs.Request.{request_seen}
use Rattle.sopcook.specs.Endings.{EchoesLines, IsOpening, IsCaused}
use Rattle.sopcook.proofs.PromiseLemmas.{unopened_promise, script_promise, refused_promise}
use Rattle.sopcook.proofs.run.run.Goals as goal

pub answer_script-requires : goal.answer_script-requires
answer_script-requires g c = subst EchoesLines c.in-Ok-Read.field-0-is c.in-Ok-Read.ensures.lines

pub returns-in-Ok-Read : goal.returns-in-Ok-Read
returns-in-Ok-Read g c =
    let told = g.F.Files.told c.args.files.now in
    script_promise (map string_bytes c.args.words.now) (request_seen c.in-Ok.request) c.in-Ok.ensures.ok c.in-Ok-Read.script c.answer_script.result _ _ _
    (subst (λ opening. IfSome told (λ names. IsOpening (load_of names c.in-Ok.request.script.now most_script_bytes) opening)) c.in-Ok-Read.field-0-is c.in-Ok-Read.ensures.opening)
    c.open_script.ensures.told c.open_script.ensures.faults.later c.open_script.ensures.misses_later c.open_script.ensures.overs_later c.answer_script.ensures

pub returns-in-Ok-Refused : goal.returns-in-Ok-Refused
returns-in-Ok-Refused g c =
    let told = g.F.Files.told c.args.files.now in
    let missed = Rose (g.F.Files.misses c.args.files.now) (g.F.Files.misses c.open_script.new.files) in
    let over = Rose (g.F.Files.overs c.args.files.now) (g.F.Files.overs c.open_script.new.files) in
    refused_promise (map string_bytes c.args.words.now) (request_seen c.in-Ok.request) c.in-Ok.ensures.ok c.in-Ok-Refused.answer c.deliver.result _ _
    (subst (λ opening. IfSome told (λ names. IsOpening (load_of names c.in-Ok.request.script.now most_script_bytes) opening)) c.in-Ok-Refused.field-0-is c.in-Ok-Refused.ensures.opening)
    (subst (IsCaused missed over) c.in-Ok-Refused.field-0-is c.in-Ok-Refused.ensures.caused) c.deliver.ensures (search rules)

pub returns-in-Err : goal.returns-in-Err
returns-in-Err g c =
    unopened_promise (map string_bytes c.args.words.now) (request_seen c.in-Ok.request) c.in-Ok.ensures.ok c.in-Err.end c.deliver_end.result _ _ (search rules) refl c.deliver_end.ensures (search rules)

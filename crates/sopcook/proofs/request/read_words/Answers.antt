use Rattle.std.proofs.Common.{sym, ◌∙◌, ap, map}
use Rattle.std.specs.Prelude.{option_map, string_bytes}
use Rattle.clap.specs.Words.{found_of}
use Rattle.sopcook.specs.Request.{request_seen}
use Rattle.sopcook.proofs.RequestLemmas.{request_is}
use Rattle.sopcook.proofs.request.read_words.Goals as goal

pub returns-in-Some-clause-ok : goal.returns-in-Some-clause-ok
returns-in-Some-clause-ok c =
    request_is (map string_bytes c.args.words.now) (found_of c.in-Ok.matches) c.in-Ok.ensures.taken c.in-Ok.ensures.rows ∙ sym c.asked.ensures ∙ ap (option_map request_seen) c.in-Some.is

pub returns-clause-refused : goal.returns-clause-refused
returns-clause-refused c = λ _.
    request_is (map string_bytes c.args.words.now) (found_of c.in-Ok.matches) c.in-Ok.ensures.taken c.in-Ok.ensures.rows ∙ sym c.asked.ensures ∙ ap (option_map request_seen) c.in-None.is

use Rattle.std.proofs.Common.{◌≡◌, ℕ, ◌+◌, ap, sym, ◌∙◌, take}
use Rattle.std.proofs.lemmas.Str.{is_utf8-from_IsUtf8}
use Rattle.std.specs.Str.Lossy.{utf8_valid_len}
use Rattle.hscript_text.specs.declared.refusal.ScriptEnd.TheVariants as script_end
use Rattle.hscript_text.specs.declared.refusal.ScriptKind.TheVariants.{BadBytes}
use Rattle.hscript_text.specs.Pieces.{no_variables}
use Rattle.hscript_text.specs.Reading.{line_ends, reading_from, reading_if}
use Rattle.hscript_text.proofs.Readings.{not_text}
use Rattle.hscript_text.proofs.reader.Reader.new.Goals as goal

pub returns-in-Ok-clause-ok : goal.returns-in-Ok-clause-ok
returns-in-Ok-clause-ok c =
    let bytes = c.args.bytes.now in
    let text = is_utf8-from_IsUtf8 bytes c.in-Ok.ensures.cases.1 in
    (text, ap (λ v. reading_from 1 v 0 c.in-Ok.text.now) c.new.ensures ∙ ap (reading_from 1 no_variables 0) c.in-Ok.ensures.cases.0 ∙ ap (λ b. reading_if b bytes) (sym text))

pub returns-in-Err-clause-refused : goal.returns-in-Err-clause-refused
returns-in-Err-clause-refused c =
    let bytes = c.args.bytes.now in
    let ends : c.line_ends.result ≡ line_ends (take (utf8_valid_len bytes) bytes) =
    c.line_ends.ensures.value ∙ ap (λ n. line_ends (take n bytes)) (c.valid_up_to.ensures ∙ c.in-Err.ensures.valid_len) in
    (not_text bytes c.in-Err.ensures.cases.0, ap (λ (n : ℕ). script_end.Refused (1 + n) BadBytes) ends)

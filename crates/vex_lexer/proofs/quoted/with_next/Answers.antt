use Rattle.std.proofs.Common.{◌∙◌, ◌++◌, ap, sym, false, string_bytes}
use Rattle.std.proofs.lemmas.List.{append_assoc}
use lib.Utf8.{encode}
use Rattle.vex_lexer.specs.Escapes.{meant, unescaped}
use Rattle.vex_lexer.proofs.Unescaping.{next_escaped, next_plain}
use Rattle.vex_lexer.proofs.quoted.with_next.Goals as goal

pub returns-then-escape : goal.returns-then-escape
returns-then-escape c rest =
    let made = string_bytes c.args.made.now in
    ap (λ t. t ++ unescaped false rest) (c.in_ok-push.ensures.bytes ∙ ap (λ b. made ++ encode b) c.meant.ensures)
    ∙ append_assoc made (encode (meant c.args.c)) (unescaped false rest)
    ∙ ap (λ t. made ++ t) (sym (next_escaped c.args.c rest))
    ∙ ap (λ e. made ++ unescaped e (encode c.args.c ++ rest)) (sym c.if-escape.true)

pub returns : goal.returns
returns c rest =
    let made = string_bytes c.args.made.now in
    ap (λ t. t ++ unescaped false rest) c.in_ok-push-2.ensures.bytes
    ∙ append_assoc made (encode c.args.c) (unescaped false rest)
    ∙ ap (λ t. made ++ t) (sym (next_plain c.args.c rest c.if-c-eq92.false))
    ∙ ap (λ e. made ++ unescaped e (encode c.args.c ++ rest)) (sym c.if-escape.false)

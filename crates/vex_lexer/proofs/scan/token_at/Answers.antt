use Rattle.std.proofs.Common.{◌≡◌, ◌∙◌, ◌+◌, ◌-◌, ap, subst, arith, take, drop, true}
use Rattle.std.specs.List.{slice_range}
use Rattle.vex_lexer.specs.Words.{is_token}
use Rattle.vex_lexer.proofs.Ascii.{token_boundaries}
use Rattle.vex_lexer.proofs.TokenKinds.{some_kind}
use Rattle.vex_lexer.specs.TokenKinds.{kind_of}
use Rattle.vex_lexer.proofs.scan.token_at.Goals as goal

pub range-word-requires-clause-start_boundary : goal.range-word-requires-clause-start_boundary
range-word-requires-clause-start_boundary c = λ some. (token_boundaries c.args.text.now c.args.start c.args.len c.utf8.text c.requires.word c.requires.some c.requires.inside).0

pub range-word-requires-clause-end_boundary : goal.range-word-requires-clause-end_boundary
range-word-requires-clause-end_boundary c = (token_boundaries c.args.text.now c.args.start c.args.len c.utf8.text c.requires.word c.requires.some c.requires.inside).1

pub unreachable-requires : goal.unreachable-requires
unreachable-requires c =
    let text = c.args.text.now in
    let start = c.args.start in
    let same : c.args.len ≡ start + c.args.len - start = omega arith in
    some_kind (slice_range text start (start + c.args.len)) c.kind_of.result (c.kind_of.ensures ∙ ap kind_of c.range-word.ensures.value) (subst (λ n. is_token (take n (drop start text)) ≡ true) same c.requires.word) c.in_default.not-Some

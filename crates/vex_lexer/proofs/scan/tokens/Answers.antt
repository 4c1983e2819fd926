use Rattle.std.proofs.Common.{◌≡◌, ◌∙◌, ◌+◌, ◌++◌, [], ◌∷◌, length, take, drop, ap, sym, subst}
use Rattle.std.proofs.lemmas.List.{take_rest}
use Rattle.vex_lexer.specs.declared.opening.Opening.TheVariants.{Nothing, Between, Word}
use Rattle.std.specs.List.{filter}
use Rattle.vex_lexer.specs.Words.{is_line_end}
use Rattle.vex_lexer.specs.declared.token.Token.{Token}
use Rattle.vex_lexer.specs.Openings.{IsOpening}
use Rattle.vex_lexer.specs.Spelling.{IsCut}
use Rattle.vex_lexer.specs.Refusal.{IsRefusal}
use Rattle.vex_lexer.specs.declared.fault.LexFault.TheVariants.{NoToken}
use Rattle.vex_lexer.proofs.Scanned.{Scanned, scanned_between, scanned_word, ends_of, refused}
use Rattle.vex_lexer.proofs.scan.tokens.Goals as goal
use Rattle.vex_lexer.proofs.scan.tokens.Goals.{in-Between, in-Word+in_ok-token_at-in-Word+in_ok-push-in-Word}

pub returns-in-Nothing-clause-err : goal.returns-in-Nothing-clause-err
returns-in-Nothing-clause-err c =
    let bytes = c.as_bytes-bytes.result.now in
    let place = c.loop-place.place in
    let none : IsOpening (drop place bytes) Nothing = subst (λ t. IsOpening t Nothing) (take_rest bytes place) c.in-Nothing.ensures in
    subst (λ text. IsRefusal text (NoToken c.loop-place.line)) c.as_bytes-bytes.ensures.value (refused bytes place c.loop-place.line c.loop-place.tokens.items c.loop-place.invariant c.loop-place-test.true none)

pub loop-place-preserved : goal.loop-place-preserved
loop-place-preserved c =
    let bytes = c.as_bytes-bytes.result.now in
    let place = c.loop-place.place in
    let line = c.loop-place.line in
    let len = c.match-opening_at.len in
    let ends = ends_of bytes place len c.line_ends.result c.line_ends.ensures.value in
    elim c.match-opening_at.branch [
      | in-Between w ↦
          (let there : IsOpening (drop place bytes) (Between len) = subst (λ n. IsOpening (drop place bytes) (Between n)) (sym w.len-is) (subst (λ t. IsOpening t (Between w.in-Between.len)) (take_rest bytes place) w.in-Between.ensures) in
          subst (λ v. Scanned bytes (place + len) (line + c.line_ends.result) v.items) (sym w.tokens-is)
          (scanned_between bytes place line c.loop-place.tokens.items len c.line_ends.result c.loop-place.invariant there ends))
      | in-Word+in_ok-token_at-in-Word+in_ok-push-in-Word w ↦
          (let n = w.in-Word.len in
          let token : Token = w.in_ok-token_at-in-Word.field-0 in
          let there : IsOpening (drop place bytes) (Word n) = subst (λ t. IsOpening t (Word n)) (take_rest bytes place) w.in-Word.ensures in
          let made : IsCut bytes place (place + n) line token = subst (λ t. IsCut t place (place + n) line token) (sym c.as_bytes-bytes.ensures.value) w.in_ok-token_at-in-Word.ensures in
          let counted : c.line_ends.result ≡ length (filter is_line_end (take n (drop place bytes))) = subst (λ k. c.line_ends.result ≡ length (filter is_line_end (take k (drop place bytes)))) w.len-is ends in
          let next = scanned_word bytes place line c.loop-place.tokens.items n c.line_ends.result token c.loop-place.invariant there.1 there.2 there.0 made counted in
          let pushed : c.match-opening_at.tokens.items ≡ c.loop-place.tokens.items ++ token ∷ [] = ap (λ v. v.items) w.tokens-is ∙ w.in_ok-push-in-Word.ensures.items in
          subst (λ k. Scanned bytes (place + k) (line + c.line_ends.result) c.match-opening_at.tokens.items) (sym w.len-is)
          (subst (Scanned bytes (place + n) (line + c.line_ends.result)) (sym pushed) next))
    ]

use Rattle.std.proofs.Common.{◌+◌, ◌++◌, Ok, Err, subst}
use Rattle.hscript_text.specs.Parts.{Echoes, between}
use Rattle.hscript_text.proofs.Echoing.{echoes_word, echoes_cut}
use Rattle.hscript_text.proofs.echoed.Echoed.echo.Goals as goal

pub returns-in-Err : goal.returns-in-Err
returns-in-Err c =
    let old = c.args.self.now in
    let mid = c.loop-i.self in
    let new = c.add_word.new.self in
    let word = c.index-words-i.result in
    echoes_cut c.args.words.now (c.loop-i.i + 1) old new c.in-Err.end
    (echoes_word c.args.words.now c.loop-i.i word old mid new (Err c.in-Err.end) c.loop-i-test.true c.loop-i.invariant
    (subst (λ w. Echoes mid new (between c.loop-i.i ++ w) (Err c.in-Err.end)) c.index-words-i.is c.in-Err.ensures))

pub loop-i-preserved : goal.loop-i-preserved
loop-i-preserved c =
    let old = c.args.self.now in
    let mid = c.loop-i.self in
    let new = c.add_word.new.self in
    let word = c.index-words-i.result in
    (echoes_word c.args.words.now c.loop-i.i word old mid new (Ok tt) c.loop-i-test.true c.loop-i.invariant
    (subst (λ w. Echoes mid new (between c.loop-i.i ++ w) (Ok tt)) c.index-words-i.is c.in-Ok.ensures)).0

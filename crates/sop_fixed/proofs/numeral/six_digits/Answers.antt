use Rattle.std.proofs.Common.{◌≡◌, ◌-◌, ◌++◌, length, take, replicate, decimal, arith, rules, ◌∙◌, ap, sym, append-nil}
use Rattle.std.proofs.lemmas.Fmt.{length-decimal-le}
use Rattle.std.proofs.lemmas.List.{take-replicate, take-append-drop}
use Rattle.sop_fixed.proofs.numeral.six_digits.Goals as goal

pub write_digits-requires : goal.write_digits-requires
write_digits-requires c = search (rules, length-decimal-le 6)

pub returns : goal.returns
returns c =
    let w = c.write_digits in
    let start : w.result ≡ 6 - length (decimal c.args.n) = omega arith in
    let zeros : take w.result w.new.buf ≡ replicate w.result 48 = w.ensures.before ∙ take-replicate _ 6 48 (omega arith) in
    sym (take-append-drop w.result w.new.buf)
    ∙ ap (λ digits. take w.result w.new.buf ++ digits) (w.ensures.written ∙ append-nil (decimal c.args.n))
    ∙ ap (λ front. front ++ decimal c.args.n) (zeros ∙ ap (λ n. replicate n 48) start)

use Rattle.std.proofs.Common.{◌∙◌, sym, ap}
use Rattle.std.proofs.lemmas.List.{take_rest}
use Rattle.geo_text.specs.ObjLines.{joined}
use Rattle.geo_text.specs.ObjScan.{is_apart}
use Rattle.geo_text.proofs.ObjScanning.{word_more}
use Rattle.geo_text.proofs.scan.word_len.Goals as goal

pub loop-len-preserved : goal.loop-len-preserved
loop-len-preserved c =
    word_more c.args.text.now c.loop-len.len c.loop-len.invariant.1 c.loop-len.invariant.2
    (ap (λ l. is_apart (joined l)) (sym (take_rest c.args.text.now c.loop-len.len)) ∙ sym c.is_apart.ensures ∙ c.loop-len-test.true)

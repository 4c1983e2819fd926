use Rattle.std.proofs.Common.{◌≡◌, ◌+◌, ◌*◌, ◌≤◌, ◌%◌, ◌∙◌, List, length, take, sym, ap, arith, inl, inr}
use Rattle.std.proofs.lemmas.List.{length-replicate}
use Rattle.sop_pages.specs.declared.cell.Cell.{Cell}
use Rattle.sop_cells.proofs.CutLemmas.{take_all_of}
use Rattle.sop_cells.proofs.CopyLemmas.{copies_behind}
use Rattle.sop_cells.proofs.packer.Packer.push_copies.Goals as goal
use Rattle.sop_cells.proofs.packer.Packer.push_copies.Goals.{In_ok-run}

pub loop-page-preserved : goal.loop-page-preserved
loop-page-preserved c =
    let most : c.lesser-len.result ≡ 1024 = elim c.lesser-len.ensures.one [ inl e ↦ let s = c.lesser-len.ensures.second in omega arith | inr e ↦ e ] in
    let long = ap (λ (cs : List Cell). length cs) c.in_ok-run.ensures ∙ length-replicate c.lesser-len.result c.args.cell.now in
    copies_behind c.args.cell.now c.lesser-len.result c.lesser-len.result (c.loop-page._page * 1024) ((c.loop-page._page + 1) * 1024) _ _ _ c.in_ok-run.run'.items _ c.in_ok-run.ensures (omega arith)
    (c.deref.ensures.value ∙ sym (take_all_of c.in_ok-run.run'.items c.lesser-len.result (omega arith))) (omega arith) c.in_ok-push_run.ensures c.loop-page.invariant

pub returns : goal.returns
returns c =
    let enough : c.args.count % 1024 ≤ c.lesser-len.result = elim c.lesser-len.ensures.one [ inl e ↦ omega arith | inr e ↦ omega arith ] in
    copies_behind c.args.cell.now c.lesser-len.result (c.args.count % 1024) (c.loop-page._page * 1024) c.args.count _ _ _ c.in_ok-run.run'.items _ c.in_ok-run.ensures enough
    (ap (take (c.args.count % 1024)) c.deref-2.ensures.value) (omega arith) c.in_ok-push_run-2.ensures c.loop-page.invariant

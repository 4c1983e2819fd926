use Rattle.std.proofs.Common.{ap, sym, ◌∙◌, subst}
use Rattle.sop_net.specs.Network.{parm_at}
use Rattle.sop_basic.specs.declared.loaded.LoadedFile.TheVariants.{Bytes, Missing, TooLong}
use Rattle.sop_basic.specs.Making.{Gives}
use Rattle.sop_basic.proofs.FileLemmas.{file_known, no_file_known, file_told}
use Rattle.sop_basic.proofs.MakingLemmas.{kept_same}
use Rattle.sop_basic.proofs.ParmLemmas.{parm_read}
use Rattle.sop_basic.proofs.file.cook_file.Goals as goal

pub returns-in-Some-Bytes : goal.returns-in-Some-Bytes
returns-in-Some-Bytes c =
    let name = parm_read c.args.parms.now 0 c.text.result.now c.text.ensures in
    let known = file_known c.args.loaded.now c.text.result.now c.get.result c.in-Some-Bytes.field-0 (Bytes c.in-Some-Bytes.bytes) c.get.ensures c.in-Some-Bytes.is c.in-Some-Bytes.field-0-is in
    let told = file_told c.args.loaded.now (parm_at c.args.parms.now 0) c.text.result.now (Bytes c.as_slice.result.now) name (known ∙ ap Bytes (sym c.as_slice.ensures)) in
    subst (λ o. Gives c.args.vault.now c.read_bytes.new.vault o c.read_bytes.result) (sym told) c.read_bytes.ensures

pub returns-in-Some-TooLong : goal.returns-in-Some-TooLong
returns-in-Some-TooLong c =
    let name = parm_read c.args.parms.now 0 c.text.result.now c.text.ensures in
    let known = file_known c.args.loaded.now c.text.result.now c.get.result c.in-Some-TooLong.field-0 TooLong c.get.ensures c.in-Some-TooLong.is c.in-Some-TooLong.field-0-is in
    (file_told c.args.loaded.now (parm_at c.args.parms.now 0) c.text.result.now TooLong name known, kept_same c.args.vault.now)

pub returns-in-Some-Missing : goal.returns-in-Some-Missing
returns-in-Some-Missing c =
    let name = parm_read c.args.parms.now 0 c.text.result.now c.text.ensures in
    let known = file_known c.args.loaded.now c.text.result.now c.get.result c.in-Some-Missing.field-0 Missing c.get.ensures c.in-Some-Missing.is c.in-Some-Missing.field-0-is in
    (file_told c.args.loaded.now (parm_at c.args.parms.now 0) c.text.result.now Missing name known, kept_same c.args.vault.now)

pub returns-in-None : goal.returns-in-None
returns-in-None c =
    let name = parm_read c.args.parms.now 0 c.text.result.now c.text.ensures in
    let known = no_file_known c.args.loaded.now c.text.result.now c.get.result c.get.ensures c.in-None.is in
    (file_told c.args.loaded.now (parm_at c.args.parms.now 0) c.text.result.now Missing name known, kept_same c.args.vault.now)

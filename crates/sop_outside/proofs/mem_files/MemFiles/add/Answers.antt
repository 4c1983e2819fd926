use Rattle.std.proofs.Common.{refl}
use Rattle.sop_outside.proofs.TextMaps.{by_bytes-updates}
use Rattle.sop_outside.proofs.mem_files.MemFiles.add.Goals as goal

pub returns-clause-ok : goal.returns-clause-ok
returns-clause-ok c =
    let inserted = by_bytes-updates c.self.inside.files c.insert.new.self c.in_ok-name.name c.from_vec.result c.in_ok-insert.ensures.updates in
    rw (← c.self.view_is, inserted, c.in_ok-name.ensures.ok, c.from_vec.ensures, c.in_ok-bytes.ensures.items) refl

use Rattle.std.proofs.Common.{rules}
use Rattle.geo_text.proofs.ObjScanning.{blank_behind}
use Rattle.geo_text.proofs.scan.behind_blank.Goals as goal

pub returns-in-92-clause-blank : goal.returns-in-92-clause-blank
returns-in-92-clause-blank c = blank_behind c.args.text.now c.behind_end.result c.in-92.len_at_least (search rules) c.behind_end.ensures.end

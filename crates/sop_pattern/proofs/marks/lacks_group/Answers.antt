use Rattle.sop_pattern.proofs.Names.{named_is_missing}
use Rattle.sop_pattern.proofs.marks.lacks_group.Goals as goal

pub returns-in-Group : goal.returns-in-Group
returns-in-Group g c = named_is_missing (g.V.GeoView.geo c.args.view.now) c.args.class c.args.atom.now c.in-Group.name c.as_str.result.now c.find_group.result c.is_none.result c.in-Group.is c.as_str.ensures c.find_group.ensures c.is_none.ensures

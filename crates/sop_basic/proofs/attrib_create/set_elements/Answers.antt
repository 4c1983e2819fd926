use Rattle.std.proofs.Common.{sym, ap, ◌∙◌, not}
use Rattle.sop_model.specs.Values.{kind_of}
use Rattle.sop_basic.proofs.ColumnLemmas.{no_position}
use Rattle.sop_basic.proofs.CreateLemmas.{may_vector, may_name}
use Rattle.sop_basic.proofs.attrib_create.set_elements.Goals as goal

pub set_places-requires-clause-position : goal.set_places-requires-clause-position
set_places-requires-clause-position c = sym c.is_position.ensures ∙ c.if-is_position.true

pub set_places-requires-clause-vector : goal.set_places-requires-clause-vector
set_places-requires-clause-vector c = may_vector c.args.class c.args.name.now (kind_of c.args.value.now) c.requires.fits (sym c.is_position.ensures ∙ c.if-is_position.true)

pub set_named-requires-clause-name : goal.set_named-requires-clause-name
set_named-requires-clause-name c = may_name c.args.class c.args.name.now (kind_of c.args.value.now) c.requires.fits

pub set_named-requires-clause-apart : goal.set_named-requires-clause-apart
set_named-requires-clause-apart c = no_position c.args.class c.args.name.now (ap not (sym c.is_position.ensures ∙ c.if-is_position.false))

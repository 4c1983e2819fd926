use Rattle.sop_pattern.proofs.Spelled.{atom_is_spelled, spelled_is_atom}
use Rattle.sop_pattern.proofs.law.atoms_are_spelled.Goals as goal

pub returns : goal.returns
returns c = λ atom. (atom_is_spelled c.args.word.now atom, spelled_is_atom c.args.word.now atom)

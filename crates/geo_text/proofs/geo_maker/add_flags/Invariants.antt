use Rattle.std.proofs.Common.{◌≡◌, map, take, drop}
use Rattle.geo_text.specs.ObjTaking.{flag_more}
use Rattle.geo_text.proofs.geo_maker.add_flags.Given as goal

abbrev pub invariant-loop-prim : goal.invariant-loop-prim
invariant-loop-prim l = (take l.prim-index l.prims ≡ map flag_more (take l.prim-index l.initial.prims)) × (drop l.prim-index l.prims ≡ drop l.prim-index l.initial.prims)

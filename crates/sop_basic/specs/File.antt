-- `file`: the geometry of the OBJ text that the file `file` holds. NoFile where there is no such file; Limit where it is longer than 64 MiB
-- or past a limit of OBJ; Number or Index with the line that is refused.
use Rattle.std.specs.Prelude.{Result, Ok, Err}
use Rattle.sop_model.specs.declared.geo.Geo.{Geo}
use Rattle.sop_model.specs.declared.fault.Fault.TheVariants as fault
use Rattle.sop_model.specs.declared.fault.CookStop.{CookStop}
use Rattle.sop_model.specs.declared.fault.CookStop.TheVariants as stop
use Rattle.geo_text.specs.declared.obj_fault.ObjFault.{ObjFault}
use Rattle.geo_text.specs.declared.obj_fault.ObjFault.TheVariants as obj
use Rattle.geo_text.specs.ObjMeaning.{meaning, Refusal, Number, Index, Limit}
use Rattle.sop_basic.specs.declared.loaded.LoadedFile.{LoadedFile}
use Rattle.sop_basic.specs.declared.loaded.LoadedFile.TheVariants.{Bytes, Missing, TooLong}
use Rattle.sop_basic.specs.Outcomes.{Outcome}

abbrev pub of_text : Result Geo Refusal → Outcome
of_text (Ok g) = Ok g
of_text (Err (Number line)) = Err (fault.Number line)
of_text (Err (Index line)) = Err (fault.Index line)
of_text (Err Limit) = Err fault.Limit

abbrev pub file_geo : LoadedFile → Outcome
file_geo (Bytes bytes) = of_text (meaning bytes)
file_geo Missing = Err fault.NoFile
file_geo TooLong = Err fault.Limit

-- what a text that gives no geometry is at a node
abbrev pub stop_of_text : ObjFault → CookStop
stop_of_text (obj.Number line) = stop.Fault (fault.Number line)
stop_of_text (obj.Index line) = stop.Fault (fault.Index line)
stop_of_text obj.Limit = stop.Fault fault.Limit
stop_of_text obj.Memory = stop.Memory

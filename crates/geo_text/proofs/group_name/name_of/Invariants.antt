use Rattle.std.proofs.Common.{◌≡◌, ◌++◌, map, take}
use Rattle.std.specs.Prelude.{string_bytes}
use Rattle.geo_text.specs.ObjStatements.{mended_byte}
use Rattle.geo_text.proofs.group_name.name_of.Given as goal

abbrev pub invariant-loop-byte : goal.invariant-loop-byte
invariant-loop-byte l = string_bytes l.name ≡ l.start ++ map mended_byte (take l.byte-index l.bytes)

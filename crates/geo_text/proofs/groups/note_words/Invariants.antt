use Rattle.std.proofs.Common.{◌≡◌, length, map}
use Rattle.std.specs.Prelude.{vec_len}
use Rattle.geo_text.specs.ObjStatements.{mended}
use Rattle.geo_text.specs.ObjScan.{words_here}
use Rattle.geo_text.specs.ObjRun.{noted}
use Rattle.geo_text.proofs.groups.note_words.Given as goal

abbrev pub invariant-loop-word : goal.invariant-loop-word
invariant-loop-word g l = record {
  attributes : g.T.ObjTaker.attributes l.taker ≡ g.T.ObjTaker.attributes l.initial.taker;
  noted : noted (map mended (words_here l.rest)) (record { geo = g.T.ObjTaker.taken l.taker; flags = l.flags.items })
      ≡ noted (map mended (words_here l.words)) (record { geo = g.T.ObjTaker.taken l.initial.taker; flags = l.initial.flags.items });
  len : vec_len l.flags ≡ length (g.T.ObjTaker.taken l.taker).prim.groups;
}

abbrev pub decreases-loop-word : goal.decreases-loop-word
decreases-loop-word g l = length l.rest

use Rattle.std.proofs.Common.{◌≡◌, ℕ, length}
use Rattle.geo_text.specs.ObjScan.{words_here}
use Rattle.geo_text.specs.ObjRun.{behind, vertices_by}
use Rattle.geo_text.proofs.reader.read_vertices.Given as goal

abbrev pub invariant-loop-word : goal.invariant-loop-word
invariant-loop-word l = (line : ℕ) →
    behind l.vertices.items (vertices_by line l.totals.counts l.so_far l.totals.textures.items l.totals.normals.items (words_here l.rest))
    ≡ vertices_by line l.totals.counts l.so_far l.totals.textures.items l.totals.normals.items (words_here l.words)

abbrev pub decreases-loop-word : goal.decreases-loop-word
decreases-loop-word l = length l.rest

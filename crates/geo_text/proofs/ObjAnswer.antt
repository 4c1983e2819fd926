-- What a text means is a well made geometry within every limit, whose values are vectors.
use Rattle.std.proofs.Common.{◌≡◌, ℕ, ◌≤◌, List, [], length, refl, subst, arith, Ok, Err, false, inl, inr}
use Rattle.std.specs.Prelude.{◌||◌, nat_lt, All, filter_map, sum_by}
use Rattle.std.proofs.lemmas.Bool.{cases_Bool}
use Rattle.std.proofs.lemmas.Bool.Decides.{nat_tests}
use Rattle.sop_model.specs.declared.geo.Geo.{Geo}
use Rattle.sop_model.specs.Limits.{most_points, most_prims, most_vertices}
use Rattle.sop_model.specs.Geometry.{IsGood, Fits, AreValuesWithin}
use Rattle.geo_text.specs.ObjLines.{without_mark}
use Rattle.geo_text.specs.ObjMeaning.{Limit, Piece, Said, map_ok, counts_of, no_counts, references_of, is_shape, passes_limits, pieces_of, place_of, texture_of, normal_of, shapes_under, attributes_of, geo_of, geo_said, meaning}
use Rattle.geo_text.proofs.ObjCounting.{said_lines}
use Rattle.geo_text.proofs.ObjFound.{ok_of}
use Rattle.geo_text.proofs.ObjGrouping.{or_parts}
use Rattle.geo_text.proofs.ObjLooping.{counts_none}
use Rattle.geo_text.proofs.ObjSound.{IsSoundShape, corners_in, lines_kept, shapes_sound}
use Rattle.geo_text.proofs.ObjGood.{whole_good, whole_fits, whole_within}
use Rattle.geo_text.proofs.ObjWhole.{lines_at}

not_past : (most n : ℕ) → nat_lt most n ≡ false → n ≤ most
not_past most n h = grind (arith, nat_tests)

no_limit : (said : List Said) (g : Geo) → geo_said said ≡ Ok g → passes_limits said ≡ false
no_limit said g h =
    elim (cases_Bool (passes_limits said)) [
      | inl past ↦ (let no : Err Limit ≡ Ok g = rw past at h in absurd (cc))
      | inr within ↦ within
    ]

said_good : (lines : List (List ℕ)) (pieces : List Piece) → passes_limits (said_lines 1 lines) ≡ false → pieces_of (counts_of (said_lines 1 lines)) no_counts (said_lines 1 lines) ≡ Ok pieces
    → IsGood (geo_of pieces) × Fits (geo_of pieces) × AreValuesWithin (geo_of pieces)
said_good lines pieces within h =
    let said = said_lines 1 lines in
    let n = counts_of said in
    let kept = lines_kept n no_counts 1 lines pieces (counts_none n) h in
    let places = filter_map place_of pieces in
    let shapes = shapes_under [] pieces in
    let textures = filter_map texture_of pieces in
    let normals = filter_map normal_of pieces in
    let has = attributes_of places shapes in
    let sound = subst (λ total. All (IsSoundShape total) shapes) kept.points (shapes_sound n.points [] pieces refl kept.sound) in
    let ends = or_parts (nat_lt most_points n.points || nat_lt most_vertices (sum_by (λ (s : Said). length (references_of s.statement)) said)) (nat_lt most_prims (sum_by (λ (s : Said). is_shape s.statement) said)) within in
    let fronts = or_parts (nat_lt most_points n.points) (nat_lt most_vertices (sum_by (λ (s : Said). length (references_of s.statement)) said)) ends.0 in
    let few : length places ≤ most_points = subst (λ k. k ≤ most_points) kept.points (not_past most_points n.points fronts.0) in
    let less : corners_in shapes ≤ most_vertices = subst (λ k. k ≤ most_vertices) (kept.vertices []) (not_past most_vertices _ fronts.1) in
    let some : length shapes ≤ most_prims = subst (λ k. k ≤ most_prims) (kept.prims []) (not_past most_prims _ ends.1) in
    (whole_good has textures normals places shapes sound, whole_fits has textures normals places shapes sound few some less, whole_within has textures normals places shapes sound)

pub meaning_good : (bytes : List ℕ) (g : Geo) → meaning bytes ≡ Ok g → IsGood g × Fits g × AreValuesWithin g
meaning_good bytes g h =
    let said = said_lines 1 (lines_at (without_mark bytes)) in
    let within = no_limit said g h in
    let judged : map_ok geo_of (pieces_of (counts_of said) no_counts said) ≡ Ok g = rw within at h in
    let (pieces, here, is) = ok_of geo_of (pieces_of (counts_of said) no_counts said) g judged in
    subst (λ x. IsGood x × Fits x × AreValuesWithin x) is (said_good (lines_at (without_mark bytes)) pieces within here)

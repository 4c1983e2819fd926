-- No line of the text of a geometry is refused: its lines add the pieces that are written.
use Rattle.std.proofs.Common.{◌≡◌, ℕ, ◌≤◌, List, [], ◌∷◌, ◌++◌, length, map, refl, sym, ap, ◌∙◌, subst, arith, true, false, Ok}
use Rattle.std.specs.Prelude.{◌||◌, ◌==◌, nat_lt, sum_by}
use Rattle.std.specs.List.{list_all, slice_split}
use Rattle.std.proofs.lemmas.Bool.{and_parts}
use Rattle.std.proofs.lemmas.Bool.Decides.{nat_tests}
use Rattle.sop_model.specs.declared.geo.Geo.{Geo}
use Rattle.sop_model.specs.Limits.{most_points, most_prims, most_vertices}
use Rattle.sop_model.specs.Geometry.{IsGood, Fits}
use Rattle.sop_model.proofs.LimitsLemmas.{fits_within, within_points, within_prims, within_vertices}
use Rattle.geo_text.specs.ObjLines.{joined, numbered, without_mark, lines_of}
use Rattle.geo_text.specs.ObjScan.{is_line_feed}
use Rattle.geo_text.specs.ObjMeaning.{NoPiece, Said, said_by, no_counts, counts_of, references_of, is_shape, passes_limits, map_ok, pieces_of, geo_of, meaning}
use Rattle.geo_text.specs.ObjText.{text_of}
use Rattle.geo_text.specs.ObjWords.{words_text, lines_text, is_plain_byte, is_plain_word, are_plain_words, lines_written}
use Rattle.geo_text.specs.ObjPieces.{pieces_written}
use Rattle.geo_text.specs.ObjRange.{AreReal}
use Rattle.geo_text.proofs.ObjWritten.{are_plain_lines, said_words, said_written, one_text}
use Rattle.geo_text.proofs.ObjTextLines.{text_lines}
use Rattle.geo_text.proofs.ObjGives.{given_pieces, given_counts}
use Rattle.geo_text.proofs.ObjShapesBack.{shapes_back, shapes_long, corners_long}
use Rattle.geo_text.proofs.ObjLooping.{counts_none}
use Rattle.geo_text.proofs.ObjSound.{lines_kept}
use Rattle.geo_text.proofs.ObjWhole.{lines_at}
use Rattle.geo_text.proofs.ObjRoundTrip.{whole_of, whole_counted, all_given, all_plain}

-- ---- no byte order mark
no_mark : (b : ℕ) (text : List ℕ) → (b == 239) ≡ false → without_mark (b ∷ text) ≡ b ∷ text
no_mark b [] h = refl
no_mark b (c ∷ []) h = refl
no_mark b (c ∷ d ∷ text) h = rw h refl

byte_unmarked : (b : ℕ) → is_plain_byte b ≡ true → (b == 239) ≡ false
byte_unmarked b h = grind (arith, nat_tests)

words_unmarked : (words : List (List ℕ)) (rest : List ℕ) → are_plain_words words ≡ true → without_mark (words_text words ++ 10 ∷ rest) ≡ words_text words ++ 10 ∷ rest
words_unmarked [] rest h = no_mark 10 rest refl
words_unmarked ([] ∷ words) rest h = cc
words_unmarked ((b ∷ word) ∷ []) rest h =
    let plain = (and_parts (is_plain_word (b ∷ word)) true h).0 in
    let inside = (and_parts _ (list_all is_plain_byte (b ∷ word)) plain).1 in
    no_mark b (word ++ 10 ∷ rest) (byte_unmarked b (and_parts (is_plain_byte b) (list_all is_plain_byte word) inside).0)
words_unmarked ((b ∷ word) ∷ next ∷ words) rest h =
    let plain = (and_parts (is_plain_word (b ∷ word)) (are_plain_words (next ∷ words)) h).0 in
    let inside = (and_parts _ (list_all is_plain_byte (b ∷ word)) plain).1 in
    no_mark b ((word ++ 32 ∷ words_text (next ∷ words)) ++ 10 ∷ rest) (byte_unmarked b (and_parts (is_plain_byte b) (list_all is_plain_byte word) inside).0)

lines_unmarked : (lines : List (List (List ℕ))) → are_plain_lines lines ≡ true → without_mark (lines_text lines) ≡ lines_text lines
lines_unmarked [] h = refl
lines_unmarked (words ∷ lines) h =
    let plain = (and_parts (are_plain_words words) (are_plain_lines lines) h).0 in
    ap without_mark (one_text words lines) ∙ words_unmarked words (lines_text lines) plain ∙ sym (one_text words lines)

-- ---- what the text says
pub text_said : (g : Geo) → are_plain_lines (lines_written g) ≡ true → map said_by (lines_of (text_of g)) ≡ said_words 1 (lines_written g)
text_said g plain =
    ap (λ t. map said_by (lines_of t)) (sym (text_lines g))
    ∙ ap (λ t. map said_by (numbered 1 (slice_split is_line_feed (joined t)))) (lines_unmarked (lines_written g) plain)
    ∙ said_written 1 (lines_written g) plain

pub text_pieces : (g : Geo) → IsGood g → Fits g → AreReal g → pieces_of (counts_of (map said_by (lines_of (text_of g)))) no_counts (map said_by (lines_of (text_of g))) ≡ Ok (pieces_written g ++ NoPiece ∷ [])
text_pieces g good f real =
    let given = all_given g good f real in
    ap (λ s. pieces_of (counts_of s) no_counts s) (text_said g (all_plain g good f real))
    ∙ ap (λ n. pieces_of n no_counts (said_words 1 (lines_written g))) (given_counts (whole_of g) 1 (lines_written g) (pieces_written g) given ∙ whole_counted g)
    ∙ given_pieces (whole_of g) no_counts 1 (lines_written g) (pieces_written g) given

-- ---- no limit is passed
kept_within : (n v m : ℕ) → n ≤ most_points → v ≤ most_vertices → m ≤ most_prims → (nat_lt most_points n || nat_lt most_vertices v || nat_lt most_prims m) ≡ false
kept_within n v m p q r = grind (arith, nat_tests)

text_within : (g : Geo) → IsGood g → Fits g → AreReal g → passes_limits (map said_by (lines_of (text_of g))) ≡ false
text_within g good f real =
    let within = fits_within f in
    let said = map said_by (lines_of (text_of g)) in
    let n = counts_of said in
    let given = all_given g good f real in
    let counted : counts_of said ≡ whole_of g = ap counts_of (text_said g (all_plain g good f real)) ∙ given_counts (whole_of g) 1 (lines_written g) (pieces_written g) given ∙ whole_counted g in
    let kept = lines_kept n no_counts 1 (lines_at (without_mark (text_of g))) (pieces_written g ++ NoPiece ∷ []) (counts_none n) (text_pieces g good f real) in
    let points = ap (λ c. c.points) counted in
    let prims = kept.prims [] ∙ ap length (shapes_back g) ∙ shapes_long g 0 g.prims in
    let vertices = kept.vertices [] ∙ ap (λ shapes. sum_by (λ s. length s.corners) shapes) (shapes_back g) ∙ corners_long g 0 g.prims in
    kept_within n.points (sum_by (λ (s : Said). length (references_of s.statement)) said) (sum_by (λ (s : Said). is_shape s.statement) said)
    (subst (λ k. k ≤ most_points) (sym points) (within_points within))
    (subst (λ k. k ≤ most_vertices) (sym vertices) (within_vertices within))
    (subst (λ k. k ≤ most_prims) (sym prims) (within_prims within))

-- the text of a geometry is one that is read: it means what the pieces that are written make
pub text_read : (g : Geo) → IsGood g → Fits g → AreReal g → meaning (text_of g) ≡ Ok (geo_of (pieces_written g ++ NoPiece ∷ []))
text_read g good f real = rw (text_within g good f real) (ap (map_ok geo_of) (text_pieces g good f real))

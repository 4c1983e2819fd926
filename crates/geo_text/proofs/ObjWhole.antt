-- A whole text: what its lines have is known before they are judged, and what is taken of them is what it means.
use Rattle.std.proofs.Common.{◌≡◌, ℕ, ◌+◌, ◌-◌, List, [], length, refl, sym, ap, ◌∙◌, subst, arith, Result, Ok, Err, None, true, false}
use Rattle.std.specs.Prelude.{filter_map}
use Rattle.std.specs.List.{slice_split}
use Rattle.sop_fixed.specs.declared.vec3.Vec3.{Vec3}
use Rattle.sop_model.specs.declared.geo.Geo.{Geo}
use Rattle.geo_text.specs.declared.obj_fault.ObjFault.{ObjFault}
use Rattle.geo_text.specs.declared.obj_fault.ObjFault.TheVariants as fault
use Rattle.geo_text.specs.declared.taker.Attributes.{Attributes}
use Rattle.geo_text.specs.declared.totals.Totals.{Totals}
use Rattle.geo_text.specs.declared.survey.Survey.{Survey}
use Rattle.geo_text.specs.ObjLines.{joined, without_mark}
use Rattle.geo_text.specs.ObjTaking.{begun}
use Rattle.geo_text.specs.ObjMeaning.{Refusal, Number, Index, Limit, Piece, Said, map_ok, counts_of, no_counts, passes_limits, pieces_of, place_of, texture_of, normal_of, shapes_under, attributes_of, geo_of, geo_said, meaning}
use Rattle.geo_text.specs.ObjScan.{is_line_feed, ends_in}
use Rattle.geo_text.specs.ObjRun.{Taking, pieces_taken}
use Rattle.geo_text.specs.ObjLoop.{IsTold, said_at, outcome, geo_taken}
use Rattle.geo_text.specs.ObjSurvey.{Seen, nothing_seen, all_seen, worded, survey_seen, is_past, IsPast}
use Rattle.geo_text.proofs.ObjCounting.{said_lines, lines_total, limits_seen}
use Rattle.geo_text.proofs.ObjFound.{lines_found}
use Rattle.geo_text.proofs.ObjGeometry.{all_held}

-- ---- the lines of a text
abbrev pub lines_at : List ℕ → List (List ℕ)
lines_at text = slice_split is_line_feed (joined text)

pub whole_said : (text : List ℕ) → said_at (ends_in (joined text)) (joined text) ≡ said_lines 1 (lines_at text)
whole_said text =
    let one : ends_in (joined text) - ends_in (joined text) + 1 ≡ 1 = omega arith in
    ap (λ n. said_lines n (lines_at text)) one

-- ---- what is seen of them
abbrev pub seen_of : List ℕ → Seen
seen_of text = all_seen (worded (joined text)) nothing_seen

pub seen_counts : (text : List ℕ) → counts_of (said_lines 1 (lines_at text)) ≡ record { points = (seen_of text).points; textures = length (seen_of text).textures; normals = length (seen_of text).normals }
seen_counts text =
    let t = lines_total 1 (lines_at text) nothing_seen in
    let n = counts_of (said_lines 1 (lines_at text)) in
    let p : n.points ≡ (seen_of text).points = omega (arith, t.points) in
    let x : n.textures ≡ length (seen_of text).textures = omega (arith, t.textures) in
    let k : n.normals ≡ length (seen_of text).normals = omega (arith, t.normals) in
    ap (λ a. record { points = a; textures = n.textures; normals = n.normals }) p ∙ ap (λ a. record { points = (seen_of text).points; textures = a; normals = n.normals }) x
    ∙ ap (λ a. record { points = (seen_of text).points; textures = length (seen_of text).textures; normals = a }) k

seen_limits : (text : List ℕ) → is_past (seen_of text) ≡ passes_limits (said_lines 1 (lines_at text))
seen_limits text = limits_seen (seen_of text) (said_lines 1 (lines_at text)) (lines_total 1 (lines_at text) nothing_seen)

-- ---- a text that is refused
past_told : (said : List Said) → passes_limits said ≡ true → geo_said said ≡ Err Limit
past_told said h = rw h refl

pub survey_told : (f : ObjFault) (bytes : List ℕ) → IsPast f (seen_of (without_mark bytes)) → IsTold f (meaning bytes)
survey_told (fault.Number n) bytes h = absurd h
survey_told (fault.Index n) bytes h = absurd h
survey_told fault.Limit bytes h =
    past_told (said_lines 1 (lines_at (without_mark bytes))) (sym (seen_limits (without_mark bytes)) ∙ h)
survey_told fault.Memory bytes h = tt

judged : (text : List ℕ) → is_past (seen_of text) ≡ false
    → geo_said (said_lines 1 (lines_at text)) ≡ map_ok geo_of (pieces_of (counts_of (said_lines 1 (lines_at text))) no_counts (said_lines 1 (lines_at text)))
judged text h =
    let within : passes_limits (said_lines 1 (lines_at text)) ≡ false = sym (seen_limits text) ∙ h in
    rw within refl

told_other : {A B C : Type 0} (f : ObjFault) (g : A → B) (h : A → C) (r : Result A Refusal) → IsTold f (map_ok g r) → IsTold f (map_ok h r)
told_other (fault.Number n) g h (Ok x) e = cc
told_other (fault.Number n) g h (Err r) e = let same : r ≡ Number n = cc in ap Err same
told_other (fault.Index n) g h (Ok x) e = cc
told_other (fault.Index n) g h (Err r) e = let same : r ≡ Index n = cc in ap Err same
told_other fault.Limit g h (Ok x) e = cc
told_other fault.Limit g h (Err r) e = let same : r ≡ Limit = cc in ap Err same
told_other fault.Memory g h r e = tt

pub whole_told : (f : ObjFault) (bytes : List ℕ) (totals : Totals) (t : Taking) → totals.counts ≡ counts_of (said_lines 1 (lines_at (without_mark bytes))) → is_past (seen_of (without_mark bytes)) ≡ false
    → IsTold f (outcome totals.attributes totals no_counts (said_at (ends_in (joined (without_mark bytes))) (joined (without_mark bytes))) t) → IsTold f (meaning bytes)
whole_told f bytes totals t counts within h =
    let text = without_mark bytes in
    let said = said_lines 1 (lines_at text) in
    let taken = λ (pieces : List Piece). pieces_taken totals.attributes totals.textures.items totals.normals.items pieces t in
    let here : IsTold f (map_ok taken (pieces_of (counts_of said) no_counts said)) =
    subst (λ n. IsTold f (map_ok taken (pieces_of n no_counts said))) counts (subst (λ s. IsTold f (outcome totals.attributes totals no_counts s t)) (whole_said text) h) in
    subst (IsTold f) (sym (judged text within)) (told_other f taken geo_of (pieces_of (counts_of said) no_counts said) here)

-- ---- a text that is taken
pieces_ok : (has : Attributes) (totals : Totals) (said : List Said) (t : Taking) (g : Geo) → geo_taken (outcome has totals no_counts said t) ≡ Ok g
    → (pieces : List Piece) × (pieces_of totals.counts no_counts said ≡ Ok pieces) × ((pieces_taken has totals.textures.items totals.normals.items pieces t).geo ≡ g)
pieces_ok has totals said t g h = split (pieces_of totals.counts no_counts said) h
  where
    split : (r : Result (List Piece) Refusal) → geo_taken (map_ok (λ pieces. pieces_taken has totals.textures.items totals.normals.items pieces t) r) ≡ Ok g
        → (pieces : List Piece) × (r ≡ Ok pieces) × ((pieces_taken has totals.textures.items totals.normals.items pieces t).geo ≡ g)
    split (Err e) h = cc
    split (Ok pieces) h = (pieces, refl, cc)

same_attributes : (a b : Attributes) → a.colour ≡ b.colour → a.texture ≡ b.texture → a.normal ≡ b.normal → a ≡ b
same_attributes a b c t n =
    ap (λ x. record { colour = x; texture = a.texture; normal = a.normal }) c ∙ ap (λ x. record { colour = b.colour; texture = x; normal = a.normal }) t
    ∙ ap (λ x. record { colour = b.colour; texture = b.texture; normal = x }) n

made_same : (has now : Attributes) (textures xs normals ys : List Vec3) (pieces : List Piece) → now ≡ has → xs ≡ textures → ys ≡ normals
    → (pieces_taken now xs ys pieces (record { geo = begun now; groups = []; flags = None })).geo ≡ (pieces_taken has textures normals pieces (record { geo = begun has; groups = []; flags = None })).geo
made_same has now textures xs normals ys pieces a b c =
    ap (λ x. (pieces_taken x xs ys pieces (record { geo = begun x; groups = []; flags = None })).geo) a
    ∙ ap (λ x. (pieces_taken has x ys pieces (record { geo = begun has; groups = []; flags = None })).geo) b
    ∙ ap (λ x. (pieces_taken has textures x pieces (record { geo = begun has; groups = []; flags = None })).geo) c

pub whole_taken : (bytes : List ℕ) (totals : Totals) (g : Geo) → totals.counts ≡ counts_of (said_lines 1 (lines_at (without_mark bytes))) → is_past (seen_of (without_mark bytes)) ≡ false
    → totals.attributes ≡ (seen_of (without_mark bytes)).has → totals.textures.items ≡ (seen_of (without_mark bytes)).textures → totals.normals.items ≡ (seen_of (without_mark bytes)).normals
    → geo_taken (outcome totals.attributes totals no_counts (said_at (ends_in (joined (without_mark bytes))) (joined (without_mark bytes))) (record { geo = begun totals.attributes; groups = []; flags = None })) ≡ Ok g
    → meaning bytes ≡ Ok g
whole_taken bytes totals g counts within has textures normals h =
    let text = without_mark bytes in
    let said = said_lines 1 (lines_at text) in
    let start : Taking = record { geo = begun totals.attributes; groups = []; flags = None } in
    let (pieces, is, taken) = pieces_ok totals.attributes totals said start g (ap (λ s. geo_taken (outcome totals.attributes totals no_counts s start)) (sym (whole_said text)) ∙ h) in
    let whole : pieces_of (counts_of said) no_counts said ≡ Ok pieces = ap (λ n. pieces_of n no_counts said) (sym counts) ∙ is in
    let found = lines_found (counts_of said) no_counts 1 (lines_at text) nothing_seen pieces whole in
    let shapes = shapes_under [] pieces in
    let places = filter_map place_of pieces in
    let are = same_attributes (seen_of text).has (attributes_of places shapes) found.colour (found.texture []) (found.normal []) in
    let made = made_same (attributes_of places shapes) totals.attributes (filter_map texture_of pieces) totals.textures.items (filter_map normal_of pieces) totals.normals.items pieces
    (has ∙ are) (textures ∙ found.textures) (normals ∙ found.normals) in
    let geo : geo_of pieces ≡ g = sym (all_held (attributes_of places shapes) (filter_map texture_of pieces) (filter_map normal_of pieces) pieces) ∙ sym made ∙ taken in
    judged text within ∙ ap (map_ok geo_of) whole ∙ ap Ok geo

-- ---- what a survey gives
pub record Surveyed (text : List ℕ) (totals : Totals) : Type 0 where
  pub counts : totals.counts ≡ record { points = (seen_of text).points; textures = length (seen_of text).textures; normals = length (seen_of text).normals }
  pub within : is_past (seen_of text) ≡ false
  pub attributes : totals.attributes ≡ (seen_of text).has
  pub textures : totals.textures.items ≡ (seen_of text).textures
  pub normals : totals.normals.items ≡ (seen_of text).normals

pub surveyed : (text : List ℕ) (s : Survey) (totals : Totals) → survey_seen s ≡ seen_of text → is_past (survey_seen s) ≡ false
    → totals.counts ≡ record { points = s.points; textures = length s.textures.items; normals = length s.normals.items } → totals.attributes ≡ s.attributes
    → totals.textures.items ≡ s.textures.items → totals.normals.items ≡ s.normals.items → Surveyed text totals
surveyed text s totals seen within counts attributes textures normals = record {
  counts = counts ∙ ap (λ (x : Seen). record { points = x.points; textures = length x.textures; normals = length x.normals }) seen;
  within = subst (λ x. is_past x ≡ false) seen within;
  attributes = attributes ∙ ap (λ x. x.has) seen;
  textures = textures ∙ ap (λ x. x.textures) seen;
  normals = normals ∙ ap (λ x. x.normals) seen;
}

pub counts_said : (text : List ℕ) (totals : Totals) → Surveyed text totals → counts_of (said_at (ends_in (joined text)) (joined text)) ≡ totals.counts
counts_said text totals s = ap counts_of (whole_said text) ∙ seen_counts text ∙ sym s.counts

abbrev start_of : Geo → Taking
start_of g = record { geo = g; groups = []; flags = None }

pub text_taken : (bytes text : List ℕ) (totals : Totals) (has : Attributes) (began g : Geo) → text ≡ without_mark bytes → Surveyed text totals → has ≡ totals.attributes → began ≡ begun totals.attributes
    → geo_taken (outcome has totals no_counts (said_at (ends_in (joined text)) (joined text)) (start_of began)) ≡ Ok g → meaning bytes ≡ Ok g
text_taken bytes text totals has began g same s is start h =
    let at : Surveyed (without_mark bytes) totals = subst (λ t. Surveyed t totals) same s in
    whole_taken bytes totals g (at.counts ∙ sym (seen_counts (without_mark bytes))) at.within at.attributes at.textures at.normals
    (ap (λ t. geo_taken (outcome totals.attributes totals no_counts (said_at (ends_in (joined t)) (joined t)) (start_of (begun totals.attributes)))) (sym same)
    ∙ ap (λ x. geo_taken (outcome totals.attributes totals no_counts (said_at (ends_in (joined text)) (joined text)) (start_of x))) (sym start)
    ∙ ap (λ a. geo_taken (outcome a totals no_counts (said_at (ends_in (joined text)) (joined text)) (start_of began))) (sym is) ∙ h)

pub text_told : (f : ObjFault) (bytes text : List ℕ) (totals : Totals) (has : Attributes) (began : Geo) → text ≡ without_mark bytes → Surveyed text totals → has ≡ totals.attributes
    → IsTold f (outcome has totals no_counts (said_at (ends_in (joined text)) (joined text)) (start_of began)) → IsTold f (meaning bytes)
text_told f bytes text totals has began same s is h =
    let at : Surveyed (without_mark bytes) totals = subst (λ t. Surveyed t totals) same s in
    whole_told f bytes totals (start_of began) (at.counts ∙ sym (seen_counts (without_mark bytes))) at.within
    (subst (λ t. IsTold f (outcome totals.attributes totals no_counts (said_at (ends_in (joined t)) (joined t)) (start_of began))) same
    (subst (λ a. IsTold f (outcome a totals no_counts (said_at (ends_in (joined text)) (joined text)) (start_of began))) is h))

-- One line more of a text.
use Rattle.std.proofs.Common.{◌≡◌, ℕ, ◌+◌, ◌≤◌, List, [], ◌∷◌, map, refl, sym, ap, ◌∙◌, subst, arith, Result, Ok, Err, Option, Some, None, inl, inr}
use Rattle.std.specs.List.{slice_split, onto_first}
use Rattle.std.proofs.lemmas.Bool.{cases_Bool}
use Rattle.geo_text.specs.declared.obj_fault.ObjFault.{ObjFault}
use Rattle.geo_text.specs.declared.obj_fault.ObjFault.TheVariants as fault
use Rattle.geo_text.specs.declared.reference.Counts.{Counts}
use Rattle.geo_text.specs.declared.taker.Attributes.{Attributes}
use Rattle.geo_text.specs.declared.totals.Totals.{Totals}
use Rattle.geo_text.specs.ObjLines.{joined, joints_in, numbered, words_of}
use Rattle.geo_text.specs.ObjStatements.{Statement, Point, Texture, Normal, Shape, Checked, Groups, Nothing, statement_of}
use Rattle.geo_text.specs.ObjMeaning.{Refusal, Said, said_by, map_ok, put_first, piece_of, pieces_of, Piece, counted_in, counts_of, no_counts}
use Rattle.geo_text.specs.ObjReferences.{AreSoFar}
use Rattle.std.specs.Borrow.{Bor}
use Rattle.geo_text.specs.ObjScan.{is_line_feed, line_in, behind_line, lines_left, ends_in, joined_left}
use Rattle.geo_text.specs.ObjRun.{Taking, piece_taken, pieces_taken, taken_by}
use Rattle.geo_text.specs.ObjLoop.{IsTold, number_at, said_at, said_left, ends_left, counts_sum, outcome}

-- ---- the first line of a text and the others
pub first_line : (text : List ℕ) → slice_split is_line_feed text ≡ line_in text ∷ lines_left (behind_line text)
first_line [] = refl
first_line (b ∷ text) =
    elim (cases_Bool (is_line_feed b)) [
      | inl end ↦ rw end refl
      | inr goes ↦ rw goes (ap (onto_first b) (first_line text))
    ]

abbrev ends_behind : Option (List ℕ) → ℕ
ends_behind None = 0
ends_behind (Some text) = 1 + ends_in text

first_ends : (text : List ℕ) → ends_in text ≡ joints_in (line_in text) + ends_behind (behind_line text)
first_ends [] = refl
first_ends (b ∷ text) =
    elim (cases_Bool (is_line_feed b)) [
      | inl end ↦ rw end (omega arith)
      | inr goes ↦ rw goes (let rest = first_ends text in omega (arith, rest))
    ]

pub ends_fewer : (text : List ℕ) (ends : ℕ) → ends_in text ≤ ends → ends_left (behind_line text) ≤ ends
ends_fewer text ends h = fewer (behind_line text) (first_ends text)
  where
    fewer : (rest : Option (List ℕ)) → ends_in text ≡ joints_in (line_in text) + ends_behind rest → ends_left rest ≤ ends
    fewer None e = omega arith
    fewer (Some more) e = omega (arith, e, h)

abbrev pub said_first : ℕ → List ℕ → Said
said_first ends text = record { line = number_at ends text; statement = statement_of (words_of (line_in text)) }

pub said_more : (ends : ℕ) (text : List ℕ) → ends_in text ≤ ends → said_at ends text ≡ said_first ends text ∷ said_left ends (behind_line text)
said_more ends text h =
    ap (λ lines. map said_by (numbered (number_at ends text) lines)) (first_line text)
    ∙ ap (λ rest. said_first ends text ∷ rest) (others (behind_line text) (first_ends text))
  where
    others : (rest : Option (List ℕ)) → ends_in text ≡ joints_in (line_in text) + ends_behind rest
        → map said_by (numbered (number_at ends text + (joints_in (line_in text) + 1)) (lines_left rest)) ≡ said_left ends rest
    others None e = refl
    others (Some more) e =
        let next : number_at ends text + (joints_in (line_in text) + 1) ≡ number_at ends more = omega (arith, e, h) in
        ap (λ n. map said_by (numbered n (lines_left (Some more)))) next

-- ---- a line that is taken, or refused
outcome_put : (has : Attributes) (totals : Totals) (r : Result Piece Refusal) (rest : Result (List Piece) Refusal) (t after : Taking)
    → map_ok (λ p. piece_taken has totals.textures.items totals.normals.items p t) r ≡ Ok after
    → map_ok (λ ps. pieces_taken has totals.textures.items totals.normals.items ps t) (put_first r rest) ≡ map_ok (λ ps. pieces_taken has totals.textures.items totals.normals.items ps after) rest
outcome_put has totals (Err e) rest t after h = cc
outcome_put has totals (Ok p) (Err e) t after h = refl
outcome_put has totals (Ok p) (Ok ps) t after h =
    let same : piece_taken has totals.textures.items totals.normals.items p t ≡ after = cc in
    ap (λ x. Ok (pieces_taken has totals.textures.items totals.normals.items ps x)) same

pub outcome_more : (has : Attributes) (totals : Totals) (so_far : Counts) (all : List Said) (s : Said) (said : List Said) (t after : Taking) → all ≡ s ∷ said
    → taken_by s.line has totals so_far s.statement t ≡ Ok after → outcome has totals so_far all t ≡ outcome has totals (counted_in s.statement so_far) said after
outcome_more has totals so_far all s said t after e h =
    ap (λ l. outcome has totals so_far l t) e
    ∙ outcome_put has totals (piece_of s.line totals.counts so_far s.statement) (pieces_of totals.counts (counted_in s.statement so_far) said) t after h

refused_put : {A B : Type 0} (f : ObjFault) (g : List A → B) (r : Result A Refusal) (rest : Result (List A) Refusal) → IsTold f r → IsTold f (map_ok g (put_first r rest))
refused_put (fault.Number line) g r rest h = rw h refl
refused_put (fault.Index line) g r rest h = rw h refl
refused_put fault.Limit g r rest h = rw h refl
refused_put fault.Memory g r rest h = tt

pub outcome_refused : (f : ObjFault) (has : Attributes) (totals : Totals) (so_far : Counts) (all : List Said) (s : Said) (said : List Said) (t : Taking) → all ≡ s ∷ said
    → IsTold f (piece_of s.line totals.counts so_far s.statement) → IsTold f (outcome has totals so_far all t)
outcome_refused f has totals so_far all s said t e h =
    subst (λ l. IsTold f (outcome has totals so_far l t)) (sym e)
    (refused_put f (λ ps. pieces_taken has totals.textures.items totals.normals.items ps t) (piece_of s.line totals.counts so_far s.statement) (pieces_of totals.counts (counted_in s.statement so_far) said) h)

-- ---- counts
sum_moves : (s : Statement) (a n : Counts) → counts_sum a (counted_in s n) ≡ counts_sum (counted_in s a) n
sum_moves (Point place) a n =
    let e : a.points + (n.points + 1) ≡ (a.points + 1) + n.points = omega arith in
    ap (λ k. record { points = k; textures = a.textures + n.textures; normals = a.normals + n.normals }) e
sum_moves (Texture at) a n =
    let e : a.textures + (n.textures + 1) ≡ (a.textures + 1) + n.textures = omega arith in
    ap (λ k. record { points = a.points + n.points; textures = k; normals = a.normals + n.normals }) e
sum_moves (Normal at) a n =
    let e : a.normals + (n.normals + 1) ≡ (a.normals + 1) + n.normals = omega arith in
    ap (λ k. record { points = a.points + n.points; textures = a.textures + n.textures; normals = k }) e
sum_moves (Shape closed references) a n = refl
sum_moves (Checked references) a n = refl
sum_moves (Groups names) a n = refl
sum_moves Nothing a n = refl

pub counts_more : (so_far whole : Counts) (all : List Said) (s : Said) (said : List Said) → all ≡ s ∷ said → counts_sum so_far (counts_of all) ≡ whole → counts_sum (counted_in s.statement so_far) (counts_of said) ≡ whole
counts_more so_far whole all s said e h = sym (sum_moves s.statement so_far (counts_of said)) ∙ ap (λ l. counts_sum so_far (counts_of l)) (sym e) ∙ h

pub counts_below : (a n whole : Counts) → counts_sum a n ≡ whole → AreSoFar whole a
counts_below a n whole h =
    subst (λ w. AreSoFar w a) h (record { points = omega arith; textures = omega arith; normals = omega arith })

pub counts_none : (n : Counts) → counts_sum no_counts n ≡ n
counts_none n =
    let p : 0 + n.points ≡ n.points = omega arith in
    let t : 0 + n.textures ≡ n.textures = omega arith in
    let k : 0 + n.normals ≡ n.normals = omega arith in
    ap (λ x. record { points = x; textures = 0 + n.textures; normals = 0 + n.normals }) p
    ∙ ap (λ x. record { points = n.points; textures = x; normals = 0 + n.normals }) t ∙ ap (λ x. record { points = n.points; textures = n.textures; normals = x }) k

-- ---- the line at the front of what is left
pub line_ends : (ends : ℕ) (left : Option (Bor (List ℕ))) (line : Bor (List ℕ)) → left ≡ Some line → ends_left (joined_left left) ≤ ends → ends_in (joined line.now) ≤ ends
line_ends ends left line e h = subst (λ l. ends_left (joined_left l) ≤ ends) e h

pub line_here : (ends : ℕ) (left : Option (Bor (List ℕ))) (line : Bor (List ℕ)) → left ≡ Some line → ends_left (joined_left left) ≤ ends
    → said_left ends (joined_left left) ≡ said_first ends (joined line.now) ∷ said_left ends (behind_line (joined line.now))
line_here ends left line e h = ap (λ l. said_left ends (joined_left l)) e ∙ said_more ends (joined line.now) (line_ends ends left line e h)

-- Lines judged word by word.
use Rattle.std.proofs.Common.{◌≡◌, ℕ, ◌<◌, List, [], ◌∷◌, ◌++◌, length, map, append_assoc, refl, sym, ap, ◌∙◌, subst, arith, Result, Ok, Err, Some, Bool, true, false}
use Rattle.std.specs.Prelude.{◌==◌}
use Rattle.std.specs.List.{push}
use Rattle.std.proofs.lemmas.Bool.Decides.{nat_tests}
use Rattle.geo_text.specs.declared.taker.Attributes.{Attributes}
use Rattle.geo_text.specs.declared.taker.Vertex.{Vertex}
use Rattle.geo_text.specs.declared.totals.Totals.{Totals}
use Rattle.geo_text.specs.declared.groups.Groups.{Groups}
use Rattle.sop_model.specs.declared.geo.Geo.{Geo}
use Rattle.geo_text.specs.ObjTaking.{prim_taken}
use Rattle.geo_text.specs.declared.reference.Counts.{Counts}
use Rattle.geo_text.specs.declared.reader.LineFault.{LineFault}
use Rattle.geo_text.specs.declared.reader.LineFault.TheVariants as fault
use Rattle.geo_text.specs.ObjStatements.{Reference, Checked, reference_of, shape_in}
use Rattle.geo_text.specs.ObjMeaning.{Refusal, Number, Index, map_ok, put_first, each_of, named_by, vertex_of, piece_of, NoPiece, ShapePiece}
use Rattle.geo_text.specs.ObjRun.{behind, vertex_by, vertices_by, taken_by, prim_behind, with_prim, marked_by, Marked, IsRefused, Taking, taking_seen, groups_seen}

pub vertex_put : (r : Result Vertex Refusal) (rest : Result (List Vertex) Refusal) (old new : List Vertex) → map_ok (push old) r ≡ Ok new → behind new rest ≡ behind old (put_first r rest)
vertex_put (Err e) rest old new h = cc
vertex_put (Ok v) (Err e) old new h = refl
vertex_put (Ok v) (Ok vs) old new h =
    let same : old ++ v ∷ [] ≡ new = cc in
    ap (λ l. Ok (l ++ vs)) (sym same) ∙ ap Ok (append_assoc old (v ∷ []) vs)

pub vertices_more : (f : List ℕ → Result Vertex Refusal) (words : List (List ℕ)) (word : List ℕ) (more : List (List ℕ)) (old new : List Vertex) (all : Result (List Vertex) Refusal)
    → words ≡ word ∷ more → map_ok (push old) (f word) ≡ Ok new → behind old (each_of f words) ≡ all → behind new (each_of f more) ≡ all
vertices_more f words word more old new all e next so_far =
    vertex_put (f word) (each_of f more) old new next ∙ ap (λ l. behind old (each_of f l)) (sym e) ∙ so_far

-- ---- the vertices of a line, and what its references name
put_seen : {A B : Type 0} (v : A → B) (r : Result A Refusal) (rest : Result (List A) Refusal) → put_first (map_ok v r) (map_ok (map v) rest) ≡ map_ok (map v) (put_first r rest)
put_seen v (Err e) rest = refl
put_seen v (Ok x) (Err e) = refl
put_seen v (Ok x) (Ok xs) = refl

vertices_seen : {A B : Type 0} (f : Reference → Result A Refusal) (v : A → B) (words : List (List ℕ)) → each_of (λ w. map_ok v (f (reference_of w))) words ≡ map_ok (map v) (each_of f (map reference_of words))
vertices_seen f v [] = refl
vertices_seen f v (w ∷ words) = ap (put_first (map_ok v (f (reference_of w)))) (vertices_seen f v words) ∙ put_seen v (f (reference_of w)) (each_of f (map reference_of words))

ok_from : {A B : Type 0} (g : A → B) (r : Result A Refusal) (y : B) → map_ok g r ≡ Ok y → (x : A) × (r ≡ Ok x) × (g x ≡ y)
ok_from g (Err e) y h = cc
ok_from g (Ok x) y h = (x, refl, cc)

refused_from : {A B C : Type 0} (line : ℕ) (f : LineFault) (g : A → B) (h : A → C) (r : Result A Refusal) → IsRefused line f (map_ok g r) → IsRefused line f (map_ok h r)
refused_from line fault.Number g h (Ok x) e = cc
refused_from line fault.Number g h (Err r) e = let same : r ≡ Number line = cc in ap Err same
refused_from line fault.Index g h (Ok x) e = cc
refused_from line fault.Index g h (Err r) e = let same : r ≡ Index line = cc in ap Err same
refused_from line fault.Memory g h r e = tt

pub checked_taken : (line : ℕ) (has : Attributes) (totals : Totals) (so_far : Counts) (words : List (List ℕ)) (vs : List Vertex) (t : Taking)
    → vertices_by line totals.counts so_far totals.textures.items totals.normals.items words ≡ Ok vs → taken_by line has totals so_far (Checked (map reference_of words)) t ≡ Ok t
checked_taken line has totals so_far words vs t h =
    let whole = sym (vertices_seen (named_by line totals.counts so_far) (vertex_of totals.textures.items totals.normals.items) words) ∙ h in
    let (named, is, _) = ok_from (map (vertex_of totals.textures.items totals.normals.items)) (each_of (named_by line totals.counts so_far) (map reference_of words)) vs whole in
    rw is refl

pub checked_refused : (line : ℕ) (totals : Totals) (so_far : Counts) (words : List (List ℕ)) (f : LineFault)
    → IsRefused line f (vertices_by line totals.counts so_far totals.textures.items totals.normals.items words) → IsRefused line f (piece_of line totals.counts so_far (Checked (map reference_of words)))
checked_refused line totals so_far words f h =
    let seen = vertices_seen (named_by line totals.counts so_far) (vertex_of totals.textures.items totals.normals.items) words in
    refused_from line f (map (vertex_of totals.textures.items totals.normals.items)) (λ all. NoPiece) (each_of (named_by line totals.counts so_far) (map reference_of words))
    (subst (IsRefused line f) seen h)

pub shape_refused : (line : ℕ) (totals : Totals) (so_far : Counts) (closed : Bool) (words : List (List ℕ)) (f : LineFault)
    → IsRefused line f (vertices_by line totals.counts so_far totals.textures.items totals.normals.items words) → IsRefused line f (piece_of line totals.counts so_far (shape_in closed words))
shape_refused line totals so_far closed [] fault.Number h = cc
shape_refused line totals so_far closed [] fault.Index h = cc
shape_refused line totals so_far closed [] fault.Memory h = tt
shape_refused line totals so_far closed (w ∷ words) f h =
    let seen = vertices_seen (named_by line totals.counts so_far) (vertex_of totals.textures.items totals.normals.items) (w ∷ words) in
    refused_from line f (map (vertex_of totals.textures.items totals.normals.items)) (ShapePiece closed) (each_of (named_by line totals.counts so_far) (map reference_of (w ∷ words)))
    (subst (IsRefused line f) seen h)

pub no_shape : (line : ℕ) (has : Attributes) (totals : Totals) (so_far : Counts) (closed : Bool) (words : List (List ℕ)) (vs : List Vertex) (t : Taking)
    → vertices_by line totals.counts so_far totals.textures.items totals.normals.items words ≡ Ok vs → length vs ≡ 0 → taken_by line has totals so_far (shape_in closed words) t ≡ Ok t
no_shape line has totals so_far closed [] vs t h none = refl
no_shape line has totals so_far closed (w ∷ words) vs t h none =
    let f = vertex_by line totals.counts so_far totals.textures.items totals.normals.items in
    let (v, more, whole) = some_from (f w) (each_of f words) vs h in
    absurd (omega (arith, none, ap length whole))
  where
    some_from : (r : Result Vertex Refusal) (rest : Result (List Vertex) Refusal) (vs : List Vertex) → put_first r rest ≡ Ok vs → (v : Vertex) × (more : List Vertex) × (vs ≡ v ∷ more)
    some_from (Err e) rest vs h = cc
    some_from (Ok v) (Err e) vs h = cc
    some_from (Ok v) (Ok more) vs h = (v, more, cc)

pub shape_taken : (line : ℕ) (has : Attributes) (totals : Totals) (so_far : Counts) (closed : Bool) (words : List (List ℕ)) (vs : List Vertex) (t : Taking)
    → vertices_by line totals.counts so_far totals.textures.items totals.normals.items words ≡ Ok vs → 0 < length vs → taken_by line has totals so_far (shape_in closed words) t ≡ Ok (prim_behind has closed vs t)
shape_taken line has totals so_far closed [] vs t h some = let none : [] ≡ vs = cc in absurd (omega (arith, some, ap length none))
shape_taken line has totals so_far closed (w ∷ words) vs t h some =
    let whole = sym (vertices_seen (named_by line totals.counts so_far) (vertex_of totals.textures.items totals.normals.items) (w ∷ words)) ∙ h in
    let (named, is, seen) = ok_from (map (vertex_of totals.textures.items totals.normals.items)) (each_of (named_by line totals.counts so_far) (map reference_of (w ∷ words))) vs whole in
    rw is (ap (λ l. Ok (prim_behind has closed l t)) seen)

-- a primitive behind what was taken
pub taking_more : (has now : Attributes) (closed : Bool) (vs : List Vertex) (t : Taking) (m : Marked) (geo : Geo) (g : Groups)
    → m ≡ marked_by t.flags t.groups t.geo → now ≡ has → geo ≡ prim_taken now closed vs m.flags m.geo → groups_seen g ≡ t.groups → g.is_known ≡ true → g.flags.items ≡ m.flags
    → prim_behind has closed vs t ≡ taking_seen geo g
taking_more has now closed vs t m geo g marked same taken groups known flags =
    ap (with_prim has closed vs t.groups) (sym marked)
    ∙ rw (known, flags, groups) (ap (λ x. record { geo = x; groups = t.groups; flags = Some m.flags }) (ap (λ a. prim_taken a closed vs m.flags m.geo) (sym same) ∙ sym taken))

pub empty_is : (b : Bool) (seen vs : List Vertex) → b ≡ (length seen == 0) → b ≡ true → seen ≡ vs → length vs ≡ 0
empty_is b seen vs e t same = let at = ap length same in let none : (length seen == 0) ≡ true = sym e ∙ t in grind (arith, nat_tests)

pub some_is : (b : Bool) (seen vs : List Vertex) → b ≡ (length seen == 0) → b ≡ false → seen ≡ vs → 0 < length vs
some_is b seen vs e f same = let at = ap length same in let some : (length seen == 0) ≡ false = sym e ∙ f in grind (arith, nat_tests)

-- The words of the command line as the kit's command reads them.
use Rattle.std.proofs.Common.{◌≡◌, Bool, true, false, cond, ℕ, List, [], ◌∷◌, inl, inr, map, refl, sym, ◌∙◌, ap, subst}
use Rattle.std.specs.Prelude.{None, Some, Result, Ok, Err, find, bytes_eq, slice_get, option_map, option_and_then, codes}
use Rattle.std.proofs.lemmas.Option.{slice_get-map}
use Rattle.clap.specs.Words.{Kinds, IsAmong, HasKind, FailsBy, kind_of, is_simple_and_free, is_simple, first_of, first_value, rows_of, fault_of, matches_of}
use Rattle.clap.specs.Walk.{row_of}
use Rattle.clap.specs.Facts.{Entry}
use Rattle.clap.specs.declared.parser.matches.Found.{Found}
use Rattle.clap.specs.declared.error.Error.{Error}
use Rattle.clap.specs.declared.error.kind.ErrorKind.TheVariants as kind
use Rattle.clap.proofs.OnLiterals.{clap_on_literals}
use Rattle.sopcook.specs.Request.{sopcook_app, are_taken, asked, given_for, taken_request, request_of, are_workers, form_asked}

pub app_is_simple : is_simple sopcook_app ≡ true
unfolding clap_on_literals
app_is_simple = refl

pub app_is_free : is_simple_and_free sopcook_app ≡ true
unfolding clap_on_literals
app_is_free = refl

-- words that fail by nothing are taken, and by another kind than want of memory they aren't
pub taken_by : {T : Type 0} (kinds : Kinds) (value : T) (r : Result T Error) → r ≡ Ok value → FailsBy kinds r → are_taken kinds ≡ true
taken_by kinds value r is h = let none : kinds ≡ [] = subst (FailsBy kinds) is h in ap are_taken none

among_some : (kinds : Kinds) (e : Error) → IsAmong (kind_of e) kinds → are_taken kinds ≡ false
among_some [] e h = absurd h
among_some (k ∷ kinds) e h = refl

pub untaken_by : {T : Type 0} (kinds : Kinds) (e : Error) (r : Result T Error) → r ≡ Err e → (kind_of e ≡ kind.OutOfMemory → ⊥) → FailsBy kinds r → are_taken kinds ≡ false
untaken_by kinds e r is other h = elim (let has : HasKind kinds e = subst (FailsBy kinds) is h in has) [
  | inl memory ↦ absurd (other memory)
  | inr among ↦ among_some kinds e among
]

first_in : (entries : List Entry) (id : List ℕ)
    → option_and_then (λ a. option_map (λ s. s.now) (slice_get a.vals.items 0)) (option_map (λ e. e.1) (find (λ e. bytes_eq e.0.now id) entries)) ≡ first_of id (map row_of entries)
first_in [] id = refl
first_in (e ∷ entries) id = by (first_in entries id) (bytes_eq e.0.now id)
  where
    by : option_and_then (λ a. option_map (λ s. s.now) (slice_get a.vals.items 0)) (option_map (λ e. e.1) (find (λ e. bytes_eq e.0.now id) entries)) ≡ first_of id (map row_of entries) → (b : Bool)
        → option_and_then (λ a. option_map (λ s. s.now) (slice_get a.vals.items 0)) (option_map (λ e. e.1) (cond b (Some e) (find (λ e. bytes_eq e.0.now id) entries))) ≡ option_and_then (λ r. slice_get r.values 0) (cond b (Some (row_of e)) (find (λ r. bytes_eq r.id id) (map row_of entries)))
    by rest true = sym (slice_get-map (λ s. s.now) e.1.vals.items 0)
    by rest false = rest

-- the first value of an argument is that of its row
pub value_is_first : (f : Found) (id : List ℕ) → first_value f id ≡ first_of id (rows_of f)
value_is_first f id = first_in f.entries.items id

-- what the matches of words ask for, the words ask for
pub request_is : (words : List (List ℕ)) (f : Found) → are_taken (fault_of sopcook_app words) ≡ true → rows_of f ≡ matches_of sopcook_app words
    → request_of words ≡ asked (are_workers (first_value f (codes "workers"))) (form_asked (first_value f (codes "form"))) (first_value f (codes "script")) (first_value f (codes "node"))
request_is words f taken rows =
    let same : (id : List ℕ) → given_for id words ≡ first_value f id = λ id. sym (value_is_first f id ∙ ap (first_of id) rows) in
    ap (λ b. taken_request b words) taken
    ∙ ap (λ v. asked (are_workers v) (form_asked (given_for (codes "form") words)) (given_for (codes "script") words) (given_for (codes "node") words)) (same (codes "workers"))
    ∙ ap (λ v. asked (are_workers (first_value f (codes "workers"))) (form_asked v) (given_for (codes "script") words) (given_for (codes "node") words)) (same (codes "form"))
    ∙ ap (λ v. asked (are_workers (first_value f (codes "workers"))) (form_asked (first_value f (codes "form"))) v (given_for (codes "node") words)) (same (codes "script"))
    ∙ ap (λ v. asked (are_workers (first_value f (codes "workers"))) (form_asked (first_value f (codes "form"))) (first_value f (codes "script")) v) (same (codes "node"))

pub untaken : (words : List (List ℕ)) → are_taken (fault_of sopcook_app words) ≡ false → request_of words ≡ None
untaken words refused = ap (λ b. taken_request b words) refused

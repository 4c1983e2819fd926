-- A text for a parameter is judged by the parameter's row, and texts are staged by the places of their parameters.
use Rattle.std.proofs.Common.{◌≡◌, ◌∙◌, sym, ap, subst, refl, ℕ, zero, suc, ◌-◌, ◌<◌, ◌≤◌, List, [], ◌∷◌, ◌++◌, Bool, true, false, IsTrue, length, length-append, length-set, get_or, set, take, drop, arith}
use Rattle.std.specs.Prelude.{Option, None, Some, map, position, bytes_eq, find, slice_get, slice_set, unwrap_or, replicate, if◌then◌else◌}
use Rattle.std.proofs.lemmas.List.{length-replicate}
use Rattle.std.proofs.Math.ListN.{get_or-map}
use Rattle.std.proofs.Math.Seq.{take-length}
use Rattle.std.proofs.lemmas.Option.{slice_get-get_or}
use Rattle.sop_net.specs.declared.node_type.NodeType.{NodeType}
use Rattle.sop_net.specs.declared.staged.StagedText.{StagedText}
use Rattle.sop_net.specs.declared.net_end.NetEnd.{NetEnd}
use Rattle.sop_net.specs.declared.net_end.NetEnd.TheVariants.{NoParm, BadValue}
use Rattle.sop_net.specs.declared.table.Parm as code
use Rattle.sop_net.specs.Network.{AreValues}
use Rattle.sop_net.specs.NodeTable.{Parm, parms_of}
use Rattle.sop_net.specs.ParmValues.{is_value}
use Rattle.sop_net.specs.Rows.{parm_meant, kind_meant}
use Rattle.sop_net.specs.Staged.{staged_over}
use Rattle.sop_net.specs.Steps.{refusal_of_value, refusal_of_pair, first_of, refusal_of_pairs, set_at, with_pair, with_pairs}
use Rattle.sop_net.proofs.Searches.{find-position, position-within, find-no_position}

module _ (rows : List code.Parm) (node_type : NodeType) (name value : List ℕ) (same : map parm_meant rows ≡ parms_of node_type) where
  pub judged-none : position (λ p. bytes_eq p.name name) (map parm_meant rows) ≡ None → refusal_of_pair node_type name value ≡ Some NoParm
  judged-none none =
      ap (λ found. refusal_of_value found value)
      (ap (find (λ p. bytes_eq p.name name)) (sym same) ∙ find-no_position (λ p. bytes_eq p.name name) (map parm_meant rows) none)

  pub judged-some : (at : ℕ) (d : code.Parm) → position (λ p. bytes_eq p.name name) (map parm_meant rows) ≡ Some at
      → (taken : Bool) → taken ≡ is_value (kind_meant (get_or rows at d).kind) value
      → refusal_of_pair node_type name value ≡ (if taken then None else Some BadValue)
  judged-some at d some taken is =
      let within : at < length (map parm_meant rows) = position-within (λ p. bytes_eq p.name name) (map parm_meant rows) at some in
      ap (λ found. refusal_of_value found value)
      (ap (find (λ p. bytes_eq p.name name)) (sym same) ∙ find-position (λ p. bytes_eq p.name name) (map parm_meant rows) at some
      ∙ slice_get-get_or (map parm_meant rows) at (parm_meant d) within ∙ ap Some (get_or-map parm_meant rows at d))
      ∙ ap (λ b. if b then None else Some BadValue) (sym is)

-- with nothing staged the texts stay
pub over-none : (texts : List (List ℕ)) → staged_over texts [] ≡ texts
over-none [] = refl
over-none (text ∷ texts) = refl

pub over-start : (n : ℕ) (texts : List (List ℕ)) → staged_over texts (replicate n None) ≡ texts
over-start n [] = refl
over-start zero (text ∷ texts) = refl
over-start (suc n) (text ∷ texts) = ap (λ l. text ∷ l) (over-start n texts)

-- one more is staged
over-set : (texts : List (List ℕ)) (staged : List (Option (List ℕ))) (i : ℕ) (value : List ℕ) → i < length staged → staged_over texts (set staged i (Some value)) ≡ slice_set (staged_over texts staged) i value
over-set [] staged i value h = refl
over-set (text ∷ texts) [] i value h = absurd (omega arith)
over-set (text ∷ texts) (None ∷ staged) zero value h = refl
over-set (text ∷ texts) (Some new ∷ staged) zero value h = refl
over-set (text ∷ texts) (None ∷ staged) (suc i) value h = ap (λ l. text ∷ l) (over-set texts staged i value (omega arith))
over-set (text ∷ texts) (Some new ∷ staged) (suc i) value h = ap (λ l. new ∷ l) (over-set texts staged i value (omega arith))

-- the last text that is staged takes its place first
pub over-last : (texts : List (List ℕ)) (staged : List (Option (List ℕ))) (next : Option (List ℕ)) (d : List ℕ) → length staged < length texts
    → staged_over (set texts (length staged) (unwrap_or next (get_or texts (length staged) d))) staged ≡ staged_over texts (staged ++ next ∷ [])
over-last [] staged next d h = absurd (omega arith)
over-last (text ∷ texts) [] None d h = ap (λ l. text ∷ l) (sym (over-none texts))
over-last (text ∷ texts) [] (Some new) d h = ap (λ l. new ∷ l) (sym (over-none texts))
over-last (text ∷ texts) (None ∷ staged) next d h = ap (λ l. text ∷ l) (over-last texts staged next d (omega arith))
over-last (text ∷ texts) (Some new ∷ staged) next d h = ap (λ l. new ∷ l) (over-last texts staged next d (omega arith))

pub over-step : (texts : List (List ℕ)) (all staged : List (Option (List ℕ))) (next : Option (List ℕ)) (i : ℕ) (old new : List ℕ) → all ≡ staged ++ next ∷ [] → length all ≤ length texts → i ≡ length staged → old ≡ get_or texts i old → new ≡ unwrap_or next old
    → (staged_over (set texts i new) staged ≡ staged_over texts all) × (length staged ≤ length (set texts i new))
over-step texts all staged next i old new split fits place read is =
    let longer = length-append staged (next ∷ []) in (
      ap (λ k. staged_over (set texts k new) staged) place ∙ ap (λ t. staged_over (set texts (length staged) t) staged) (is ∙ ap (unwrap_or next) (read ∙ ap (λ k. get_or texts k old) place))
          ∙ over-last texts staged next old (omega (arith, longer, ap length split)) ∙ ap (staged_over texts) (sym split),
      omega (arith, longer, ap length split, length-set texts i new),
    )

-- texts staged so far and pairs left make the whole
pub record IsStaged (node_type : NodeType) (pairs left : List (List ℕ)) (staged : List (Option (List ℕ))) : Type 0 where
  pub refusal : refusal_of_pairs node_type left ≡ refusal_of_pairs node_type pairs
  pub texts : (texts : List (List ℕ)) → with_pairs node_type (staged_over texts staged) left ≡ with_pairs node_type texts pairs
  pub places : length staged ≡ length (parms_of node_type)

pub staged-start : (node_type : NodeType) (pairs : List (List ℕ)) (n : ℕ) (staged : List (Option (List ℕ))) → n ≡ length (parms_of node_type) → staged ≡ replicate n None → IsStaged node_type pairs pairs staged
staged-start node_type pairs n staged all none = record {
  refusal = refl;
  texts = λ texts. ap (λ l. with_pairs node_type (staged_over texts l) pairs) none ∙ ap (λ t. with_pairs node_type t pairs) (over-start n texts);
  places = ap length none ∙ length-replicate n None ∙ all;
}

take-rest : {A : Type 0} (xs : List A) → take (suc (suc (length xs)) - 2) xs ≡ xs
take-rest xs = let e : suc (suc (length xs)) - 2 ≡ length xs = omega arith in ap (λ k. take k xs) e ∙ take-length xs

staged-on : (node_type : NodeType) (pairs rest : List (List ℕ)) (name value : List ℕ) (staged : List (Option (List ℕ))) (e : StagedText)
    → IsStaged node_type pairs (name ∷ value ∷ rest) staged → refusal_of_pair node_type name value ≡ None → position (λ p. bytes_eq p.name name) (parms_of node_type) ≡ Some e.at → e.text ≡ value
    → IsStaged node_type pairs rest (set staged e.at (Some e.text))
staged-on node_type pairs rest name value staged e s fine at is =
    let within : e.at < length staged = omega (arith, position-within (λ p. bytes_eq p.name name) (parms_of node_type) e.at at, s.places) in
    record {
      refusal = ap (λ end. first_of end (refusal_of_pairs node_type rest)) (sym fine) ∙ s.refusal;
      texts = λ texts.
          ap (λ t. with_pairs node_type t rest) (over-set texts staged e.at e.text within ∙ ap (slice_set (staged_over texts staged) e.at) is ∙ ap (λ place. set_at place (staged_over texts staged) value) (sym at))
          ∙ s.texts texts;
      places = length-set staged e.at (Some e.text) ∙ s.places;
    }

pub staged-step : (node_type : NodeType) (pairs left rest : List (List ℕ)) (name value : List ℕ) (staged : List (Option (List ℕ))) (e : StagedText)
    → IsStaged node_type pairs left staged → 2 ≤ length left → name ≡ get_or left 0 name → value ≡ get_or left 1 value → rest ≡ take (length left - 2) (drop 2 left)
    → refusal_of_pair node_type name value ≡ None → position (λ p. bytes_eq p.name name) (parms_of node_type) ≡ Some e.at → e.text ≡ value
    → IsStaged node_type pairs rest (set staged e.at (Some e.text))
staged-step node_type pairs [] rest name value staged e s two n v r fine at is = absurd (omega arith)
staged-step node_type pairs (a ∷ []) rest name value staged e s two n v r fine at is = absurd (omega arith)
staged-step node_type pairs (a ∷ b ∷ more) rest name value staged e s two n v r fine at is =
    let behind : rest ≡ more = r ∙ take-rest more in
    let same : a ∷ b ∷ more ≡ name ∷ value ∷ rest = rw (n, v, behind) refl in
    staged-on node_type pairs rest name value staged e (subst (λ l. IsStaged node_type pairs l staged) same s) fine at is

-- texts that are set stay texts that their parameters take
values-set : (parms : List Parm) (texts : List (List ℕ)) (i : ℕ) (p : Parm) (value : List ℕ) → AreValues parms texts → slice_get parms i ≡ Some p → IsTrue (is_value p.kind value) → AreValues parms (slice_set texts i value)
values-set [] texts i p value v e h = absurd (cc)
values-set (q ∷ parms) [] i p value v e h = absurd v
values-set (q ∷ parms) (t ∷ texts) zero p value v e h = (let same : q ≡ p = cc in subst (λ r. IsTrue (is_value r.kind value)) (sym same) h, v.1)
values-set (q ∷ parms) (t ∷ texts) (suc i) p value v e h = (v.0, values-set parms texts i p value v.1 e h)

values-found : (found : Option Parm) (place : Option ℕ) (parms : List Parm) (texts : List (List ℕ)) (value : List ℕ)
    → ((i : ℕ) → place ≡ Some i → found ≡ slice_get parms i) → AreValues parms texts → refusal_of_value found value ≡ None → AreValues parms (set_at place texts value)
values-found found None parms texts value at v fine = v
values-found None (Some i) parms texts value at v fine = absurd (cc)
values-found (Some p) (Some i) parms texts value at v fine =
    values-set parms texts i p value v (sym (at i refl))
    ((elim (is_value p.kind value) as (λ b. (if b then None else Some BadValue) ≡ None → b ≡ true) [ true ↦ λ e. refl | false ↦ λ e. absurd (cc) ]) fine)

values-pair : (node_type : NodeType) (texts : List (List ℕ)) (name value : List ℕ) → AreValues (parms_of node_type) texts → refusal_of_pair node_type name value ≡ None → AreValues (parms_of node_type) (with_pair node_type texts name value)
values-pair node_type texts name value v fine =
    values-found (find (λ p. bytes_eq p.name name) (parms_of node_type)) (position (λ p. bytes_eq p.name name) (parms_of node_type)) (parms_of node_type) texts value
    (λ i e. find-position (λ p. bytes_eq p.name name) (parms_of node_type) i e) v fine

first-none : (a b : Option NetEnd) → first_of a b ≡ None → (a ≡ None) × (b ≡ None)
first-none None b e = (refl, e)
first-none (Some end) b e = absurd (cc)

pub values-pairs : (node_type : NodeType) (texts pairs : List (List ℕ)) → AreValues (parms_of node_type) texts → refusal_of_pairs node_type pairs ≡ None → AreValues (parms_of node_type) (with_pairs node_type texts pairs)
values-pairs node_type texts [] v fine = v
values-pairs node_type texts (name ∷ []) v fine = v
values-pairs node_type texts (name ∷ value ∷ pairs) v fine =
    let parts = first-none (refusal_of_pair node_type name value) (refusal_of_pairs node_type pairs) fine in
    values-pairs node_type (with_pair node_type texts name value) pairs (values-pair node_type texts name value v parts.0) parts.1

-- The longest beginning of bytes that all pass a test.
use Rattle.std.proofs.Common.{◌≡◌, ℕ, zero, suc, ◌+◌, ◌≤◌, ◌<◌, List, [], ◌∷◌, length, take, drop, refl, ap, sym, subst, ◌∙◌, arith, Bool, true, false, not, nat_eq, codes, cond}
use Rattle.std.proofs.lemmas.Bool.{and_from, and_parts}
use Rattle.std.proofs.lemmas.List.Sums.{prefix_len-le-length}
use Rattle.std.proofs.lemmas.Slice.Eq.{starts_is}
use Rattle.std.proofs.lemmas.Bool.Decides.{Decides-eqb}
use Rattle.std.specs.List.{list_all, prefix_len, starts_with}
use Rattle.vex_lexer.specs.Longest.{IsLongest}
use Rattle.sop_model.specs.Names.{starts_name, continues_name}
use Rattle.vex_lexer.specs.Words.{begins, is_line_end, is_name}
use Rattle.vex_lexer.specs.Gaps.{is_line_comment}
use Rattle.vex_lexer.proofs.Longest.{longest_of, not_both, starts_longer}

prefix_len-yes : (passes : ℕ → Bool) (b : ℕ) (text : List ℕ) → passes b ≡ true → prefix_len passes (b ∷ text) ≡ suc (prefix_len passes text)
prefix_len-yes passes b text fit = ap (λ x. cond x (1 + prefix_len passes text) 0) fit ∙ omega arith

prefix_len-no : (passes : ℕ → Bool) (b : ℕ) (text : List ℕ) → passes b ≡ false → prefix_len passes (b ∷ text) ≡ 0
prefix_len-no passes b text unfit = ap (λ x. cond x (1 + prefix_len passes text) 0) unfit

pub run_passes : (passes : ℕ → Bool) (text : List ℕ) → list_all passes (take (prefix_len passes text) text) ≡ true
run_passes passes [] = refl
run_passes passes (b ∷ text) = elim (passes b) as (λ x. passes b ≡ x → list_all passes (take (cond x (1 + prefix_len passes text) 0) (b ∷ text)) ≡ true) [
  | true ↦ λ fit. (let e : suc (prefix_len passes text) ≡ 1 + prefix_len passes text = omega arith in subst (λ n. list_all passes (take n (b ∷ text)) ≡ true) e (and_from _ _ fit (run_passes passes text)))
  | false ↦ λ unfit. refl
] refl

pub run_within : (passes : ℕ → Bool) (text : List ℕ) (more : ℕ) → more ≤ length text → list_all passes (take more text) ≡ true → more ≤ prefix_len passes text
run_within passes text zero inside fit = omega arith
run_within passes [] (suc more) inside fit = absurd (omega arith)
run_within passes (b ∷ text) (suc more) inside fit =
    let rest = run_within passes text more (omega arith) (and_parts _ _ fit).1 in
    omega (arith, rest, prefix_len-yes passes b text (and_parts _ _ fit).0)

begins-take : (passes : ℕ → Bool) (text : List ℕ) (more : ℕ) → begins passes (take more text) ≡ true → begins passes text ≡ true
begins-take passes [] zero fit = fit
begins-take passes [] (suc more) fit = fit
begins-take passes (b ∷ text) zero fit = absurd (not_both false fit refl)
begins-take passes (b ∷ text) (suc more) fit = fit

take-begins : (passes : ℕ → Bool) (text : List ℕ) (more : ℕ) → 0 < more → begins passes text ≡ true → begins passes (take more text) ≡ true
take-begins passes text zero some fit = absurd (omega arith)
take-begins passes [] (suc more) some fit = fit
take-begins passes (b ∷ text) (suc more) some fit = fit

pub longest_name : (text : List ℕ) → begins starts_name text ≡ true → IsLongest is_name text (prefix_len continues_name text)
longest_name text first =
    longest_of is_name text (prefix_len continues_name text) (prefix_len-le-length continues_name text)
    (λ some. and_from _ _ (take-begins starts_name text (prefix_len continues_name text) some first) (run_passes continues_name text))
    (λ more over inside fit. let most = run_within continues_name text more inside (and_parts _ _ fit).1 in omega arith)

past_slashes : (text : List ℕ) → 2 ≤ prefix_len (λ b. not (is_line_end b)) (47 ∷ 47 ∷ text)
past_slashes text = omega arith

two_slashes : (text : List ℕ) → starts_with nat_eq text (codes "//") ≡ true → 2 ≤ prefix_len (λ b. not (is_line_end b)) text
two_slashes text h =
    let e : text ≡ 47 ∷ 47 ∷ drop 2 text = (starts_is Decides-eqb text (codes "//") (starts_with nat_eq text (codes "//")) refl).0 h in
    subst (λ t. 2 ≤ prefix_len (λ b. not (is_line_end b)) t) (sym e) (past_slashes (drop 2 text))

pub longest_line_comment : (text : List ℕ) → starts_with nat_eq text (codes "//") ≡ true → IsLongest is_line_comment text (prefix_len (λ b. not (is_line_end b)) text)
longest_line_comment text first =
    longest_of is_line_comment text (prefix_len (λ b. not (is_line_end b)) text) (prefix_len-le-length _ text)
    (λ some. and_from _ _ (starts_longer (codes "//") text _ (two_slashes text first) first) (run_passes _ text))
    (λ more over inside fit. let most = run_within (λ b. not (is_line_end b)) text more inside (and_parts _ _ fit).1 in omega arith)

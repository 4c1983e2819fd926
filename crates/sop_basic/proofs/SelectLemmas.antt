-- What a group pattern selects, and why it selects nothing.
use Rattle.std.proofs.Common.{◌≡◌, ℕ, Bool, List, length, map, sym, ap, ◌∙◌, subst}
use Rattle.std.specs.Prelude.{Option, Some, None, Result, Ok, Err, IsErrAnd, position}
use Rattle.std.proofs.lemmas.Result.{err_from_is_err_and}
use Rattle.std.specs.List.{range_with_len}
use Rattle.std.proofs.lemmas.List.{length-map}
use Rattle.std.proofs.lemmas.List.FromFn.{length-range_with_len}
use Rattle.sop_model.specs.declared.class.Class.{Class}
use Rattle.sop_model.specs.declared.geo.Geo.{Geo}
use Rattle.sop_model.specs.declared.fault.Fault.{Fault}
use Rattle.sop_model.specs.declared.fault.CookStop.{CookStop}
use Rattle.sop_model.specs.declared.fault.CookStop.TheVariants as stop
use Rattle.sop_model.specs.Geometry.{count_of}
use Rattle.sop_pattern.specs.declared.word.Word.{Word}
use Rattle.sop_pattern.specs.declared.fault.PatternFault.{PatternFault}
use Rattle.sop_pattern.specs.declared.fault.PatternFault.TheVariants.{BadWord, NoGroup, Memory}
use Rattle.sop_pattern.specs.Words.{pattern_of}
use Rattle.sop_pattern.specs.Selection.{selects, selection, lacks_group, unless_missing, IsSelectFault}
use Rattle.sop_vault.specs.Vaults.{VaultMap}
use Rattle.sop_basic.specs.Outcomes.{Outcome, then_with, limited}
use Rattle.sop_basic.specs.Selecting.{by_pattern, of_words, or_no_group, pattern_stop, StopsWith}
use Rattle.sop_basic.specs.Making.{Gives}
use Rattle.sop_basic.proofs.MakingLemmas.{kept_same}

module _ (g : Geo) (class : Class) (text : List ℕ) where
  -- a pattern that was read, and selects nothing
  pub select_stops : (words : List Word) → pattern_of text ≡ Ok words → (fault : PatternFault) → IsSelectFault (selection g class words) fault → StopsWith (by_pattern g class text) (pattern_stop fault)
  select_stops words read (BadWord i) is = absurd is
  select_stops words read (NoGroup i) is = ap (of_words g class) read ∙ ap or_no_group is
  select_stops words read Memory is = tt

  module _ (flags : List Bool) where
    unless_long : (words : List Word) (missing : Option ℕ) → or_no_group (unless_missing missing (map (selects g class words) (range_with_len 0 (count_of g class)))) ≡ Ok flags → length flags ≡ count_of g class
    unless_long words None is =
        let same : map (selects g class words) (range_with_len 0 (count_of g class)) ≡ flags = cc in
        ap (λ (xs : List Bool). length xs) (sym same) ∙ length-map (range_with_len 0 (count_of g class)) (selects g class words) ∙ length-range_with_len 0 (count_of g class)
    unless_long words (Some i) is = absurd (cc)

    words_long : (r : Result (List Word) ℕ) → of_words g class r ≡ Ok flags → length flags ≡ count_of g class
    words_long (Ok words) is = unless_long words (position (λ word. lacks_group g class word.atom) words) is
    words_long (Err i) is = absurd (cc)

    -- a flag for each element
    pub selected_long : by_pattern g class text ≡ Ok flags → length flags ≡ count_of g class
    selected_long is = words_long (pattern_of text) is

-- a node that wants memory before it has a key
pub memory_stops : (v : VaultMap) (outcome : Outcome) (r : Result ℕ CookStop) → IsErrAnd r (λ s. s ≡ stop.Memory) → Gives v v outcome r
memory_stops v outcome r ended =
    let (s, is, same) = err_from_is_err_and r ended in
    subst (λ r. Gives v v outcome r) (sym is) (subst (λ (s : CookStop). Gives v v outcome (Err s)) (sym same) (kept_same v))

-- a node that stops before it has a key
pub stops_at_once : {A : Type 0} (v : VaultMap) (told : Result A Fault) (go : A → Outcome) (s : CookStop) → StopsWith told s → Gives v v (limited (then_with told go)) (Err s)
stops_at_once v told go (stop.Fault f) is = (ap (λ r. limited (then_with r go)) is, kept_same v)
stops_at_once v told go stop.Memory is = kept_same v

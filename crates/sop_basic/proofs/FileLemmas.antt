-- A geometry that passes no limit, and a text that gives none.
use Rattle.std.proofs.Common.{◌≡◌, ℕ, List, sym, ap, subst, ◌∙◌, Bor}
use Rattle.std.specs.Prelude.{Option, Some, None, Result, Ok, Err, IsErrAnd, if◌then◌else◌, unwrap_or, option_copied}
use Rattle.std.proofs.lemmas.Result.{err_from_is_err_and}
use Rattle.std.specs.FinMap.{get}
use Rattle.sop_model.specs.declared.geo.Geo.{Geo}
use Rattle.sop_model.specs.declared.fault.Fault.TheVariants as fault
use Rattle.sop_model.specs.declared.fault.CookStop.{CookStop}
use Rattle.sop_model.specs.declared.fault.CookStop.TheVariants as stop
use Rattle.sop_model.specs.Geometry.{Fits}
use Rattle.sop_model.proofs.LimitsLemmas.{fits-true}
use Rattle.geo_text.specs.declared.obj_fault.ObjFault.{ObjFault}
use Rattle.geo_text.specs.declared.obj_fault.ObjFault.TheVariants as obj
use Rattle.geo_text.specs.ObjMeaning.{Refusal}
use Rattle.geo_text.specs.ObjLoop.{IsTold}
use Rattle.sop_vault.specs.Vaults.{VaultMap}
use Rattle.sop_basic.specs.declared.loaded.LoadedFile.{LoadedFile}
use Rattle.sop_basic.specs.declared.loaded.LoadedFile.TheVariants.{Missing}
use Rattle.sop_basic.specs.Loads.{Loads, file_in}
use Rattle.sop_basic.specs.Outcomes.{Outcome, limited, within_limits}
use Rattle.sop_basic.specs.File.{of_text, file_geo, stop_of_text}
use Rattle.sop_basic.specs.Making.{Gives}
use Rattle.sop_basic.proofs.MakingLemmas.{kept_same}

pub fits_limits : (g : Geo) → Fits g → within_limits g ≡ Ok g
fits_limits g fits = ap (λ b. if b then Ok g else Err fault.Limit) (fits-true g fits)

pub text_refused : (v : VaultMap) (r : Result Geo Refusal) (f : ObjFault) → IsTold f r → Gives v v (limited (of_text r)) (Err (stop_of_text f))
text_refused v r (obj.Number line) told = (ap (λ r. limited (of_text r)) told, kept_same v)
text_refused v r (obj.Index line) told = (ap (λ r. limited (of_text r)) told, kept_same v)
text_refused v r obj.Limit told = (ap (λ r. limited (of_text r)) told, kept_same v)
text_refused v r obj.Memory told = kept_same v

-- the load of a name that was looked up, and of one that has none
pub file_known : (loads : Loads) (name : List ℕ) (r : Option (Bor LoadedFile)) (f : Bor LoadedFile) (file : LoadedFile) → option_copied r ≡ get loads name → r ≡ Some f → f.now ≡ file → file_in loads name ≡ file
file_known loads name r f file h is now = ap (λ o. unwrap_or o Missing) (sym h) ∙ ap (λ q. unwrap_or (option_copied q) Missing) is ∙ now

pub no_file_known : (loads : Loads) (name : List ℕ) (r : Option (Bor LoadedFile)) → option_copied r ≡ get loads name → r ≡ None → file_in loads name ≡ Missing
no_file_known loads name r h is = ap (λ o. unwrap_or o Missing) (sym h) ∙ ap (λ q. unwrap_or (option_copied q) Missing) is

-- the name that was read is the one that is said
pub file_told : (loads : Loads) (name read : List ℕ) (file : LoadedFile) → name ≡ read → file_in loads read ≡ file → limited (file_geo (file_in loads name)) ≡ limited (file_geo file)
file_told loads name read file same known = ap (λ n. limited (file_geo (file_in loads n))) same ∙ ap (λ f. limited (file_geo f)) known

-- want of memory before the vault is touched
pub memory_kept : (v : VaultMap) (r : Result ℕ CookStop) (outcome : Outcome) → IsErrAnd r (λ e. e ≡ stop.Memory) → Gives v v outcome r
memory_kept v r outcome ended =
    let (e, is, same) = err_from_is_err_and r ended in
    subst (Gives v v outcome) (sym is) (subst (λ (s : CookStop). Gives v v outcome (Err s)) (sym same) (kept_same v))

-- The loads of a cook: what is added, what is needed, and that the cook over them is the one over the files that were told.
use Rattle.std.proofs.Common.{◌≡◌, Bool, true, false, cond, ℕ, zero, suc, ◌≤◌, List, [], ◌∷◌, ◌++◌, length, take, ◌⊎◌, inl, inr, refl, sym, ◌∙◌, ap, subst, arith, append_assoc}
use Rattle.std.specs.Prelude.{Contains, Option, None, Some, IsTrue, IfSome, is_some, unwrap_or}
use Rattle.std.specs.List.{list_any, flat_map}
use Rattle.std.specs.Cmp.Lexicographic.{slice_cmp, nat_list_cmp_total}
use Rattle.std.specs.FinMap.{get, insert, get-insert, empty, get-empty}
use Rattle.std.specs.Ordering.{nat_cmp, eq_by_cmp}
use Rattle.std.proofs.lemmas.Map.Text.{is_eq-slice_cmp}
use Rattle.std.proofs.lemmas.List.Elements.{Contains-append_left, Contains-append_right, Contains-push_cases}
use Rattle.std.proofs.lemmas.Grind.{common_steps}
use Rattle.std.proofs.lemmas.Bool.{false≢true}
use Rattle.std.proofs.lemmas.List.Folds.{Any-from_list_any}
use Rattle.std.proofs.lemmas.Slice.Eq.{bytes_eq-Decides}
use Rattle.sop_outside.specs.Load.{Names}
use Rattle.sop_net.specs.declared.node.Node.{Node}
use Rattle.sop_net.specs.Graph.{Steps, Reaches, Within}
use Rattle.sop_net.specs.Network.{used_sources}
use Rattle.sop_net.specs.Needs.{walk, file_of, is_file_named, listed, with_file, first_files, needed}
use Rattle.sop_basic.specs.declared.loaded.LoadedFile.{LoadedFile}
use Rattle.sop_basic.specs.declared.loaded.LoadedFile.TheVariants.{Missing}
use Rattle.sop_basic.specs.Loads.{Loads, FileMap, file_in}
use Rattle.sop_cook.specs.SerialCook.{cook_of}
use Rattle.sop_cook.specs.Laws.{AreAlike, IsMissing}
use Rattle.sopcook.specs.declared.answer.Answer.{Answer}
use Rattle.sopcook.specs.declared.request.Form.{Form}
use Rattle.sopcook.specs.Answer.{cook_answer}
use Rattle.sopcook.specs.Loads.{Has, HasFilesOf, HasMissing, HoldsLoads, Keeps, MissesBy, told_files}

-- what a load that is added changes
has_added : (found : Bool) (old : Option LoadedFile) (file : LoadedFile) → IsTrue (is_some old) → IsTrue (is_some (cond found (Some file) old))
has_added true old file h = refl
has_added false old file h = h

got_there : (loads : Loads) (name other : List ℕ) (file : LoadedFile) → get (insert loads name file) other ≡ cond (eq_by_cmp (slice_cmp nat_cmp) other name) (Some file) (get loads other)
got_there loads name other file = get-insert nat_list_cmp_total loads name file other

same_name : (a b : List ℕ) → a ≡ b → eq_by_cmp (slice_cmp nat_cmp) a b ≡ true
same_name a b is = is_eq-slice_cmp a b ∙ (bytes_eq-Decides a b).1 is

got_here : (name : List ℕ) (file : LoadedFile) (old : Loads) → get (insert old name file) name ≡ Some file
got_here name file old = got_there old name name file ∙ ap (λ b. cond b (Some file) (get old name)) (same_name name name refl)

pub keeps_added : (old new : Loads) (name : List ℕ) (file : LoadedFile) → new ≡ insert old name file → Keeps old new
keeps_added old new name file is other h =
    subst (λ loads. Has loads other) (sym is)
    (subst (λ found. IsTrue (is_some found)) (sym (got_there old name other file)) (has_added (eq_by_cmp (slice_cmp nat_cmp) other name) (get old other) file h))

pub has_it : (old new : Loads) (name : List ℕ) (file : LoadedFile) → new ≡ insert old name file → Has new name
has_it old new name file is = subst (λ loads. Has loads name) (sym is) (subst (λ found. IsTrue (is_some found)) (sym (got_here name file old)) refl)

pub holds_added : (names : Names) (old new : Loads) (name : List ℕ) (file : LoadedFile) → new ≡ insert old name file → file ≡ told_files names name → HoldsLoads names old → HoldsLoads names new
holds_added names old new name file is told holds other h =
    by (eq_by_cmp (slice_cmp nat_cmp) other name) refl (subst (λ loads. get loads other ≡ cond (eq_by_cmp (slice_cmp nat_cmp) other name) (Some file) (get old other)) (sym is) (got_there old name other file))
  where
    by : (b : Bool) → eq_by_cmp (slice_cmp nat_cmp) other name ≡ b → get new other ≡ cond b (Some file) (get old other) → file_in new other ≡ told_files names other
    by true same got =
        ap (λ found. unwrap_or found Missing) got ∙ told ∙ ap (told_files names) (sym ((bytes_eq-Decides other name).0 (sym (is_eq-slice_cmp other name) ∙ same)))
    by false apart got = ap (λ found. unwrap_or found Missing) got ∙ holds other (subst (λ found. IsTrue (is_some found)) got h)

-- an item of a list with one more in front
pub contains_cons : {X : Type 0} (x y : X) (xs : List X) → Contains (x ∷ xs) y → (x ≡ y) ⊎ Contains xs y
contains_cons x y xs (zero, lt, is) = inl is
contains_cons x y xs (suc k, lt, is) = inr (k, omega (arith, lt), is)

pub contains_first : {X : Type 0} (x : X) (xs : List X) → Contains (x ∷ xs) x
contains_first x xs = (0, omega arith, refl)

pub contains_flat : (f : ℕ → List ℕ) (xs : List ℕ) (x y : ℕ) → Contains xs x → Contains (f x) y → Contains (flat_map f xs) y
contains_flat f [] x y h g = absurd (omega (arith, h.1))
contains_flat f (z ∷ xs) x y h g = elim (contains_cons z x xs h) [
  | inl same ↦ Contains-append_left (f z) (flat_map f xs) y (subst (λ w. Contains (f w) y) (sym same) g)
  | inr rest ↦ Contains-append_right (f z) (flat_map f xs) y (contains_flat f xs x y rest g)
]

named_file : (file : Option (List ℕ)) (name : List ℕ) → is_file_named file name ≡ true → file ≡ Some name
named_file None name h = let no : ⊥ = cc in absurd no
named_file (Some file) name h = ap Some ((bytes_eq-Decides file name).0 h)

any_found : (p : ℕ → Bool) (xs : List ℕ) → list_any p xs ≡ true → (x : ℕ) × Contains xs x × (p x ≡ true)
any_found p xs h = let a = Any-from_list_any p xs h in (a.1, (a.0, a.2, a.3), a.4)

-- the node of a name stays listed
listed_kept : (nodes : List Node) (so_far : List ℕ) (file : Option (List ℕ)) (x y : ℕ) → Contains so_far y → Contains (listed nodes so_far file x) y
listed_kept nodes so_far None x y h = h
listed_kept nodes so_far (Some name) x y h = by (list_any (λ z. is_file_named (file_of nodes z) name) so_far)
  where
    by : (b : Bool) → Contains (cond b so_far (so_far ++ x ∷ [])) y
    by true = h
    by false = Contains-append_left so_far (x ∷ []) y h

first_files_kept : (nodes : List Node) (so_far xs : List ℕ) (y : ℕ) → Contains so_far y → Contains (first_files nodes so_far xs) y
first_files_kept nodes so_far [] y h = h
first_files_kept nodes so_far (x ∷ xs) y h = first_files_kept nodes (with_file nodes so_far x) xs y (listed_kept nodes so_far (file_of nodes x) x y h)

-- a file's name is listed by some node
pub record IsListed (nodes : List Node) (xs : List ℕ) (name : List ℕ) : Type 0 where
  pub node : ℕ
  pub here : Contains xs node
  pub file : file_of nodes node ≡ Some name

listed_here : (nodes : List Node) (so_far : List ℕ) (x : ℕ) (name : List ℕ) → file_of nodes x ≡ Some name → IsListed nodes (with_file nodes so_far x) name
listed_here nodes so_far x name is = subst (λ file. IsListed nodes (listed nodes so_far file x) name) (sym is) (by (list_any (λ z. is_file_named (file_of nodes z) name) so_far) refl)
  where
    by : (b : Bool) → list_any (λ z. is_file_named (file_of nodes z) name) so_far ≡ b → IsListed nodes (cond b so_far (so_far ++ x ∷ [])) name
    by true found = let z = any_found (λ z. is_file_named (file_of nodes z) name) so_far found in record { node = z.0; here = z.1; file = named_file (file_of nodes z.0) name z.2 }
    by false none = record { node = x; here = Contains-append_right so_far (x ∷ []) x (contains_first x []); file = is }

covers : (nodes : List Node) (so_far xs : List ℕ) (y : ℕ) (name : List ℕ) → Contains xs y → file_of nodes y ≡ Some name → IsListed nodes (first_files nodes so_far xs) name
covers nodes so_far [] y name h is = absurd (omega (arith, h.1))
covers nodes so_far (x ∷ xs) y name h is = elim (contains_cons x y xs h) [
  | inl same ↦
      let z = listed_here nodes so_far x name (ap (file_of nodes) same ∙ is) in
      record { node = z.node; here = first_files_kept nodes (with_file nodes so_far x) xs z.node z.here; file = z.file }
  | inr rest ↦ covers nodes (with_file nodes so_far x) xs y name rest is
]

-- the loads of what is needed are those of the whole walk
pub walk_loads : (nodes : List Node) (x : ℕ) (loads : Loads) → HasFilesOf nodes (needed nodes x) loads → HasFilesOf nodes (walk (length nodes) nodes x) loads
walk_loads nodes x loads has y name here is =
    let z = covers nodes [] (walk (length nodes) nodes x) y name here is in has z.node name z.here z.file

-- what is reached by used wires stands on the walk
walk_steps : (nodes : List Node) (k depth x y : ℕ) → Within (used_sources nodes) depth x → Steps (used_sources nodes) k x y → Contains (walk depth nodes x) y
walk_steps nodes k zero x y within s = absurd within
walk_steps nodes zero (suc depth) x y within s =
    subst (λ z. Contains (walk (suc depth) nodes x) z) s (Contains-append_right (flat_map (walk depth nodes) (used_sources nodes x)) (x ∷ []) x (contains_first x []))
walk_steps nodes (suc k) (suc depth) x y within (m, (used, s)) =
    Contains-append_left (flat_map (walk depth nodes) (used_sources nodes x)) (x ∷ []) y
    (contains_flat (walk depth nodes) (used_sources nodes x) m y used (walk_steps nodes k depth m y (within m used) s))

-- the loads of what is needed are those of all that is reached by used wires
reached_load : (nodes : List Node) (x y : ℕ) (name : List ℕ) (loads : Loads) → Within (used_sources nodes) (length nodes) x → HasFilesOf nodes (needed nodes x) loads
    → Reaches (used_sources nodes) x y → file_of nodes y ≡ Some name → Has loads name
reached_load nodes x y name loads within has (k, s) is = walk_loads nodes x loads has y name (walk_steps nodes k (length nodes) x y within s) is

-- the loads agree with the files that were told
pub loads_alike : (names : Names) (nodes : List Node) (x : ℕ) (loads : Loads) → Within (used_sources nodes) (length nodes) x → HasFilesOf nodes (needed nodes x) loads → HoldsLoads names loads
    → AreAlike (file_in loads) (told_files names) nodes x
loads_alike names nodes x loads within has holds y name reached is = holds name (reached_load nodes x y name loads within has reached is)

-- a missing file among the loads
found_missing : (r : Option LoadedFile) → IsTrue (is_some r) → unwrap_or r Missing ≡ Missing → r ≡ Some Missing
found_missing None has is = let no : ⊥ = cc in absurd no
found_missing (Some file) has is = ap Some is

pub missing_load : (nodes : List Node) (x y : ℕ) (loads : Loads) → Within (used_sources nodes) (length nodes) x → HasFilesOf nodes (needed nodes x) loads → IsMissing (file_in loads) nodes x y → HasMissing loads
missing_load nodes x y loads within has m = (m.name, found_missing (get loads m.name) (reached_load nodes x y m.name loads within has m.reached m.file) m.missing)

pub told_added : (told : Option Names) (old new : Loads) (name : List ℕ) (file : LoadedFile) → new ≡ insert old name file → IfSome told (λ names. file ≡ told_files names name) → IfSome told (λ names. HoldsLoads names old → HoldsLoads names new)
told_added None old new name file is told = told
told_added (Some names) old new name file is told = holds_added names old new name file is told

-- before any load
pub holds_none : (told : Option Names) (loads : Loads) → loads ≡ empty → IfSome told (λ names. HoldsLoads names loads)
holds_none None loads is = tt
holds_none (Some names) loads is = λ name h. let no : IsTrue (is_some (get empty name)) = subst (λ l. Has l name) is h in absurd (false≢true (ap is_some (sym (get-empty (slice_cmp nat_cmp) name)) ∙ no))

pub files_none : (nodes : List Node) (loads : Loads) → HasFilesOf nodes [] loads
files_none nodes loads x name here is = absurd (omega (arith, here.1))

-- one node more was loaded
pub files_more : (nodes : List Node) (xs : List ℕ) (x : ℕ) (old new : Loads) (name : List ℕ) → HasFilesOf nodes xs old → Keeps old new → Has new name → file_of nodes x ≡ Some name → HasFilesOf nodes (xs ++ x ∷ []) new
files_more nodes xs x old new name has keeps here own y file c is = elim (Contains-push_cases xs x y c) [
  | inl before ↦ keeps file (has y file before is)
  | inr same ↦ let both : Some name ≡ Some file = sym own ∙ ap (file_of nodes) same ∙ is in let its : name ≡ file = cc in subst (Has new) its here
]

pub told_more : (told now : Option Names) (a b : Loads) → now ≡ told → IfSome told (λ names. HoldsLoads names a) → IfSome now (λ names. HoldsLoads names a → HoldsLoads names b) → IfSome told (λ names. HoldsLoads names b)
told_more None now a b same h step = tt
told_more (Some names) now a b same h step = (subst (λ t. IfSome t (λ ns. HoldsLoads ns a → HoldsLoads ns b)) same step) h

take_front : (xs ys : List ℕ) → take (length xs) (xs ++ ys) ≡ xs
take_front xs ys = grind (arith, common_steps)

take_less : (n m : ℕ) (xs : List ℕ) → n ≤ m → take n (take m xs) ≡ take n xs
take_less n m xs le = grind (arith, common_steps)

-- what was written at the front of a list of places
pub taken_front : (n m : ℕ) (xs ys front rest zs : List ℕ) → zs ≡ take m (front ++ rest) → front ≡ xs ++ ys → n ≡ length xs → n ≤ m → take n zs ≡ xs
taken_front n m xs ys front rest zs is written count le =
    ap (take n) is ∙ take_less n m (front ++ rest) le ∙ ap (λ f. take n (f ++ rest)) written ∙ ap (λ k. take k ((xs ++ ys) ++ rest)) count
    ∙ ap (take (length xs)) (append_assoc xs ys rest) ∙ take_front xs (ys ++ rest)

-- the answer over the loads is the one over the files that were told
pub told_answer : (form : Form) (told : Option Names) (nodes : List Node) (x : ℕ) (loads : Loads) (answer : Answer) → Within (used_sources nodes) (length nodes) x
    → ((files others : FileMap) (x : ℕ) → AreAlike files others nodes x → cook_of files nodes x ≡ cook_of others nodes x) → HasFilesOf nodes (needed nodes x) loads → IfSome told (λ names. HoldsLoads names loads)
    → answer ≡ cook_answer form nodes (cook_of (file_in loads) nodes x) → IfSome told (λ names. answer ≡ cook_answer form nodes (cook_of (told_files names) nodes x))
told_answer form None nodes x loads answer within alike has holds is = tt
told_answer form (Some names) nodes x loads answer within alike has holds is = is ∙ ap (cook_answer form nodes) (alike (file_in loads) (told_files names) x (loads_alike names nodes x loads within has holds))

missing_in : {R : Type 0} (found : Bool) (before : Option LoadedFile) (file : LoadedFile) → cond found (Some file) before ≡ Some Missing → (file ≡ Missing → R) → (before ≡ Some Missing → R) → R
missing_in {R} true before file h here there = let same : file ≡ Missing = cc in here same
missing_in {R} false before file h here there = there h

-- a load that is added
pub missing_added : (old new : Loads) (name : List ℕ) (file : LoadedFile) (missed : Type 0) → new ≡ insert old name file → (file ≡ Missing → missed) → MissesBy old new missed
missing_added old new name file missed is cause has =
    missing_in (eq_by_cmp (slice_cmp nat_cmp) has.0 name) (get old has.0) file
    (sym (get-insert nat_list_cmp_total old name file has.0) ∙ ap (λ loads. get loads has.0) (sym is) ∙ has.1)
    (λ e. inr (cause e)) (λ e. inl (has.0, e))

pub none_missing : (loads : Loads) → loads ≡ empty → HasMissing loads → ⊥
none_missing loads is has =
    let no : None ≡ Some Missing = sym (get-empty (slice_cmp nat_cmp) has.0) ∙ ap (λ l. get l has.0) (sym is) ∙ has.1 in
    let bad : ⊥ = cc in bad

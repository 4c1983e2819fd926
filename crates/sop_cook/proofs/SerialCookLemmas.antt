-- The rule of the cook, which speaks of no bound, and what holds of every cook.
use Rattle.std.proofs.Common.{◌≡◌, refl, ◌∙◌, ap, subst, ℕ, zero, suc, List, length}
use Rattle.std.specs.Prelude.{Option, Some, Result, Ok, Err, Contains, IsTrue}
use Rattle.sop_model.specs.declared.geo.Geo.{Geo}
use Rattle.sop_model.specs.declared.fault.Fault.{Fault}
use Rattle.sop_model.specs.declared.fault.Fault.TheVariants as fault
use Rattle.sop_model.specs.Faults.{has_named_node}
use Rattle.geo_text.specs.ObjMeaning as refusal
use Rattle.geo_text.specs.ObjMeaning.{meaning, Refusal}
use Rattle.sop_net.specs.Graph.{Steps, Reaches, Within}
use Rattle.sop_net.specs.declared.node_type.NodeType.{NodeType}
use Rattle.sop_net.specs.declared.node_type.NodeType.TheVariants as type
use Rattle.sop_net.specs.declared.node.Node.{Node}
use Rattle.sop_net.specs.Network.{node_of, parm_at, used_sources, IsLive}
use Rattle.sop_net.specs.Needs.{file_of_node, file_of_type}
use Rattle.sop_basic.specs.declared.loaded.LoadedFile.{LoadedFile}
use Rattle.sop_basic.specs.declared.loaded.LoadedFile.TheVariants.{Bytes, Missing, TooLong}
use Rattle.sop_basic.specs.Loads.{FileMap}
use Rattle.sop_basic.specs.File.{of_text, file_geo}
use Rattle.sop_cook.specs.Made.{made}
use Rattle.sop_cook.specs.Visit.{Outcome, Failure, failed, at_node, Visit, visit}
use Rattle.sop_cook.specs.SerialCook.{run, cooked, cook_of}
use Rattle.sop_cook.specs.Laws.{Asks, IsUsedWire, AreAlike, IsMissing}
use Rattle.sop_cook.proofs.BasicFaults.{Fails, HoldsOfOwn}
use Rattle.sop_cook.proofs.CombineFaults.{node_fails}
use Rattle.sop_cook.proofs.VisitLemmas.{visit_asks, Ends, visit_ends, run_ends, same_run, same_visit}

-- what is asked of a visit, where it holds of each used wire
asks_weaker : (P Q : ℕ → ℕ → Type 0) (v : Visit) → ((input source : ℕ) → P input source → Q input source) → Asks P v → Asks Q v
asks_weaker P Q (Visit.Give outcome) weaker h = tt
asks_weaker P Q (Visit.Ask input source more) weaker h = (weaker input source h.0, λ g. asks_weaker P Q (more g) weaker (h.1 g))

asks_sources : (P : ℕ → Type 0) (files : FileMap) (nodes : List Node) (x : ℕ) → ((source : ℕ) → Contains (used_sources nodes x) source → P source) → Asks (λ input source. P source) (visit files x (node_of nodes x))
asks_sources P files nodes x each = asks_weaker (IsUsedWire nodes x) (λ input source. P source) (visit files x (node_of nodes x)) (λ input source wire. each source wire.used) (visit_asks files nodes x)

-- where each way up ends within the bound, one more changes nothing
one_more : (files : FileMap) (nodes : List Node) (depth x : ℕ) → Within (used_sources nodes) depth x → cooked depth files nodes x ≡ cooked (suc depth) files nodes x
one_more files nodes zero x within = absurd within
one_more files nodes (suc depth) x within =
    same_run (cooked depth files nodes) (cooked (suc depth) files nodes) (visit files x (node_of nodes x))
    (asks_sources (λ source. cooked depth files nodes source ≡ cooked (suc depth) files nodes source) files nodes x (λ source used. one_more files nodes depth source (within source used)))

-- the rule of the cook
pub cook_runs_visit : (files : FileMap) (nodes : List Node) (x : ℕ) → Within (used_sources nodes) (length nodes) x → cook_of files nodes x ≡ run (cook_of files nodes) (visit files x (node_of nodes x))
cook_runs_visit files nodes x within = one_more files nodes (length nodes) x within

reaches_itself : (f : ℕ → List ℕ) (x : ℕ) → Reaches f x x
reaches_itself f x = (zero, refl)

reaches_more : (f : ℕ → List ℕ) (x y z : ℕ) → Contains (f x) y → Reaches f y z → Reaches f x z
reaches_more f x y z h r = (suc r.0, (y, (h, r.1)))

-- what holds of each end of each visit upstream holds of what the cook gives
ends_within : (Q : Outcome → Type 0) (files : FileMap) (nodes : List Node) (depth x : ℕ) → Within (used_sources nodes) depth x
    → ((y : ℕ) → Reaches (used_sources nodes) x y → Ends Q (visit files y (node_of nodes y))) → Q (cooked depth files nodes x)
ends_within Q files nodes zero x within each = absurd within
ends_within Q files nodes (suc depth) x within each =
    run_ends Q (cooked depth files nodes) (visit files x (node_of nodes x)) (each x (reaches_itself (used_sources nodes) x))
    (asks_sources (λ source. Q (cooked depth files nodes source)) files nodes x
    (λ source used. ends_within Q files nodes depth source (within source used) (λ y reached. each y (reaches_more (used_sources nodes) x source y used reached))))

-- a failure at its own node
own_failure : (P : Failure → Type 0) (x : ℕ) (made : Result Geo Fault) → ((f : Fault) → made ≡ Err f → P (failed x f)) → (f : Failure) → at_node x made ≡ Err f → P f
own_failure P x (Ok g) own f h = let no : ⊥ = cc in absurd no
own_failure P x (Err e) own f h = let same : failed x e ≡ f = cc in subst P same (own e refl)

given_failure : (P : Failure → Type 0) (e f : Failure) → P e → ◌≡◌ {A = Outcome} (Err e) (Err f) → P f
given_failure P e f own h = let same : e ≡ f = cc in subst P same own

-- what holds of each failure that a node makes by itself holds of the cook's
cook_fails : (P : Failure → Type 0) (files : FileMap) (nodes : List Node) (x : ℕ) → Within (used_sources nodes) (length nodes) x
    → ((y input : ℕ) → Reaches (used_sources nodes) x y → P (failed y (fault.NoInput input))) → ((y : ℕ) → Reaches (used_sources nodes) x y → P (failed y fault.NotYet))
    → ((y : ℕ) (n : Node) (inputs : List (Option Geo)) (f : Fault) → Reaches (used_sources nodes) x y → node_of nodes y ≡ Some n → made files n inputs ≡ Err f → P (failed y f))
    → (f : Failure) → cook_of files nodes x ≡ Err f → P f
cook_fails P files nodes x within unwired unbuilt own f h =
    ends_within (λ outcome. (f : Failure) → outcome ≡ Err f → P f) files nodes (length nodes) x within
    (λ y reached.
    visit_ends (λ outcome. (f : Failure) → outcome ≡ Err f → P f) files y (node_of nodes y)
    (λ input f h. given_failure P (failed y (fault.NoInput input)) f (unwired y input reached) h)
    (λ f h. given_failure P (failed y fault.NotYet) f (unbuilt y reached) h)
    (λ n found inputs. own_failure P y (made files n inputs) (λ e is. own y n inputs e reached found is)))
    f h

-- the nodes upstream of one that stands stand
reached_live : (nodes : List Node) → ((x y : ℕ) → Contains (used_sources nodes x) y → IsLive nodes y) → (k x y : ℕ) → IsLive nodes x → Steps (used_sources nodes) k x y → IsLive nodes y
reached_live nodes used zero x y live s = subst (IsLive nodes) s live
reached_live nodes used (suc k) x y live (m, (h, s)) = reached_live nodes used k m y (used x m h) s

-- a fault's node stands
pub failure_live : (files : FileMap) (nodes : List Node) (x : ℕ) → Within (used_sources nodes) (length nodes) x → ((x y : ℕ) → Contains (used_sources nodes x) y → IsLive nodes y) → IsLive nodes x
    → (f : Failure) → cook_of files nodes x ≡ Err f → IsLive nodes f.node
failure_live files nodes x within used live =
    let upstream : (y : ℕ) → Reaches (used_sources nodes) x y → IsLive nodes y = λ y r. reached_live nodes used r.0 x y live r.1 in
    cook_fails (λ f. IsLive nodes f.node) files nodes x within (λ y input r. upstream y r) (λ y r. upstream y r) (λ y n inputs f r found is. upstream y r)

-- files that are alike where a node is cooked
same_within : (files others : FileMap) (nodes : List Node) (depth x : ℕ) → AreAlike files others nodes x → cooked depth files nodes x ≡ cooked depth others nodes x
same_within files others nodes zero x alike = refl
same_within files others nodes (suc depth) x alike =
    let f = used_sources nodes in
    same_run (cooked depth files nodes) (cooked depth others nodes) (visit files x (node_of nodes x))
    (asks_sources (λ source. cooked depth files nodes source ≡ cooked depth others nodes source) files nodes x
    (λ source used. same_within files others nodes depth source (λ y name reached is. alike y name (reaches_more f x source y used reached) is)))
    ∙ ap (run (cooked depth others nodes))
    (same_visit files others x (node_of nodes x) (λ n found is_file. alike x (parm_at n.parms 0) (reaches_itself f x) (ap file_of_node found ∙ ap (λ t. file_of_type t n) is_file)))

pub same_cook : (files others : FileMap) (nodes : List Node) (x : ℕ) → AreAlike files others nodes x → cook_of files nodes x ≡ cook_of others nodes x
same_cook files others nodes x alike = same_within files others nodes (length nodes) x alike

-- ONLY A FILE THAT IS MISSING MAKES NOFILE

-- a fault that is NoFile tells that the file of a file node is missing
abbrev TellsMissing : FileMap → NodeType → List (List ℕ) → Fault → Type 0
TellsMissing files t parms f = f ≡ fault.NoFile → (t ≡ type.File) × (files (parm_at parms 0) ≡ Missing)

own_missing : (files : FileMap) (t : NodeType) (parms : List (List ℕ)) → HoldsOfOwn (TellsMissing files t parms)
own_missing files t parms = record {
  not_yet = λ e. let no : ⊥ = cc in absurd no;
  no_input = λ i e. let no : ⊥ = cc in absurd no;
  bad_parm = λ e. let no : ⊥ = cc in absurd no;
  bad_group = λ i e. let no : ⊥ = cc in absurd no;
  no_group = λ i e. let no : ⊥ = cc in absurd no;
  range = λ i e. let no : ⊥ = cc in absurd no;
  limit = λ e. let no : ⊥ = cc in absurd no;
}

file_missing : (files : FileMap) (t : NodeType) (parms : List (List ℕ)) → t ≡ type.File → Fails (TellsMissing files t parms) (file_geo (files (parm_at parms 0)))
file_missing files t parms is = by (files (parm_at parms 0)) refl
  where
    read : (r : Result Geo Refusal) → Fails (TellsMissing files t parms) (of_text r)
    read (Ok g) = tt
    read (Err (refusal.Number line)) = λ e. let no : ⊥ = cc in absurd no
    read (Err (refusal.Index line)) = λ e. let no : ⊥ = cc in absurd no
    read (Err refusal.Limit) = λ e. let no : ⊥ = cc in absurd no

    by : (file : LoadedFile) → files (parm_at parms 0) ≡ file → Fails (TellsMissing files t parms) (file_geo file)
    by (Bytes bytes) e = read (meaning bytes)
    by Missing e = λ f. (is, e)
    by TooLong e = λ f. let no : ⊥ = cc in absurd no

fails_as : (P : Fault → Type 0) (r : Result Geo Fault) (f : Fault) → Fails P r → r ≡ Err f → P f
fails_as P r f fails is = subst (Fails P) is fails

made_missing : (files : FileMap) (n : Node) (inputs : List (Option Geo)) → made files n inputs ≡ Err fault.NoFile → (file_of_type n.node_type n ≡ Some (parm_at n.parms 0)) × (files (parm_at n.parms 0) ≡ Missing)
made_missing files n inputs h =
    let t = n.node_type in
    let told = fails_as (TellsMissing files t n.parms) (made files n inputs) fault.NoFile (node_fails (TellsMissing files t n.parms) (own_missing files t n.parms) files t n.parms inputs (file_missing files t n.parms)) h refl in
    (ap (λ t. file_of_type t n) told.0, told.1)

-- a cook gives NoFile only at a node whose file is missing
pub no_file : (files : FileMap) (nodes : List Node) (x : ℕ) → Within (used_sources nodes) (length nodes) x → (y : ℕ) → cook_of files nodes x ≡ Err (failed y fault.NoFile) → IsMissing files nodes x y
no_file files nodes x within y h =
    cook_fails (λ f. f.fault ≡ fault.NoFile → IsMissing files nodes x f.node) files nodes x within
    (λ z input r e. let no : ⊥ = cc in absurd no)
    (λ z r e. let no : ⊥ = cc in absurd no)
    (λ z n inputs f r found is e.
    let own = made_missing files n inputs (is ∙ ap Err e) in
    record { reached = r; name = parm_at n.parms 0; file = ap file_of_node found ∙ own.0; missing = own.1 })
    (failed y fault.NoFile) h refl

-- A FAULT NAMES NO NODE BUT BY ITS NAME

abbrev IsNamed : Fault → Type 0
IsNamed f = IsTrue (has_named_node f)

own_named : HoldsOfOwn IsNamed
own_named = record { not_yet = refl; no_input = λ i. refl; bad_parm = refl; bad_group = λ i. refl; no_group = λ i. refl; range = λ i. refl; limit = refl }

file_named : (file : LoadedFile) → Fails IsNamed (file_geo file)
file_named (Bytes bytes) = read (meaning bytes)
  where
    read : (r : Result Geo Refusal) → Fails IsNamed (of_text r)
    read (Ok g) = tt
    read (Err (refusal.Number line)) = refl
    read (Err (refusal.Index line)) = refl
    read (Err refusal.Limit) = refl
file_named Missing = refl
file_named TooLong = refl

made_named : (files : FileMap) (n : Node) (inputs : List (Option Geo)) → Fails IsNamed (made files n inputs)
made_named files n inputs = node_fails IsNamed own_named files n.node_type n.parms inputs (λ is. file_named (files (parm_at n.parms 0)))

pub failure_named : (files : FileMap) (nodes : List Node) (x : ℕ) → Within (used_sources nodes) (length nodes) x → (f : Failure) → cook_of files nodes x ≡ Err f → IsTrue (has_named_node f.fault)
failure_named files nodes x within =
    cook_fails (λ f. IsTrue (has_named_node f.fault)) files nodes x within (λ y input r. refl) (λ y r. refl)
    (λ y n inputs f r found is. fails_as IsNamed (made files n inputs) f (made_named files n inputs) is)

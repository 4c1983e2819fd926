-- What visits ask for, how they end, and when two are the same.
use Rattle.std.proofs.Common.{◌≡◌, ap, refl, sym, ◌∙◌, subst, ℕ, zero, suc, ◌+◌, List, [], ◌∷◌, Bool, true, false, arith}
use Rattle.std.specs.Prelude.{Option, None, Some, Result, Ok, Err, All}
use Rattle.std.proofs.lemmas.List.Elements.{All-nil, All-cons, All-head, All-tail}
use Rattle.sop_model.specs.declared.geo.Geo.{Geo}
use Rattle.sop_model.specs.declared.fault.Fault.{Fault}
use Rattle.sop_model.specs.declared.fault.Fault.TheVariants as fault
use Rattle.sop_net.specs.declared.node_type.NodeType.{NodeType}
use Rattle.sop_net.specs.declared.node_type.NodeType.TheVariants as type
use Rattle.sop_net.specs.declared.node.Node.{Node}
use Rattle.sop_net.specs.Network.{node_of, wire_at, wires_of, parm_at, switch_input, used_wires, wires_used_by}
use Rattle.sop_net.specs.Sockets.{Socket, sockets_from, first_used, needs_inputs, sockets_of}
use Rattle.sop_net.proofs.UsedLemmas.{wired_at}
use Rattle.sop_basic.specs.Loads.{FileMap}
use Rattle.sop_basic.specs.Outcomes.{limited}
use Rattle.sop_basic.specs.File.{file_geo}
use Rattle.sop_cook.specs.Made.{node_geo, made, is_built}
use Rattle.sop_cook.specs.Visit.{Outcome, failed, at_node, Visit, ask, ask_all, visit_if, visit}
use Rattle.sop_cook.specs.SerialCook.{then_with, run}
use Rattle.sop_cook.specs.Laws.{Asks, IsUsedWire}

-- a wired socket is as P says
abbrev Wires : (ℕ → ℕ → Type 0) → Socket → Type 0
Wires P s = (source : ℕ) → s.wire ≡ Some source → P s.input source

asks_one : (P : ℕ → ℕ → Type 0) (x input : ℕ) (is_needed : Bool) (wire : Option ℕ) (more : Option Geo → Visit) → ((source : ℕ) → wire ≡ Some source → P input source) → ((g : Option Geo) → Asks P (more g))
    → Asks P (ask x input is_needed wire more)
asks_one P x input is_needed (Some source) more wires rest = (wires source refl, λ g. rest (Some g))
asks_one P x input true None more wires rest = tt
asks_one P x input false None more wires rest = rest None

asks_all : (P : ℕ → ℕ → Type 0) (x : ℕ) (sockets : List Socket) (more : List (Option Geo) → Visit) → All (Wires P) sockets → ((inputs : List (Option Geo)) → Asks P (more inputs)) → Asks P (ask_all x sockets more)
asks_all P x [] more wires rest = rest []
asks_all P x (s ∷ sockets) more wires rest =
    asks_one P x s.input s.is_needed s.wire (λ g. ask_all x sockets (λ inputs. more (g ∷ inputs))) (All-head (Wires P) s sockets wires)
    (λ g. asks_all P x sockets (λ inputs. more (g ∷ inputs)) (All-tail (Wires P) s sockets wires) (λ inputs. rest (g ∷ inputs)))

sockets_wired : (P : ℕ → ℕ → Type 0) (input : ℕ) (is_needed : Bool) (wires : List (Option ℕ)) → ((i source : ℕ) → wire_at wires i ≡ Some source → P (input + i) source) → All (Wires P) (sockets_from input is_needed wires)
sockets_wired P input is_needed [] each = All-nil (Wires P)
sockets_wired P input is_needed (wire ∷ wires) each =
    All-cons (Wires P) (record { input = input; is_needed = is_needed; wire = wire }) (sockets_from (suc input) is_needed wires)
    (λ source is. let same : input + 0 ≡ input = omega arith in subst (λ k. P k source) same (each 0 source is))
    (sockets_wired P (suc input) is_needed wires (λ i source is. let same : input + suc i ≡ suc input + i = omega arith in subst (λ k. P k source) same (each (suc i) source is)))

-- the wires that a node uses are its own
used_own : (t : NodeType) (n : Node) (i source : ℕ) → wire_at (wires_used_by t n) i ≡ Some source → wire_at n.wires (first_used t n + i) ≡ Some source
used_own type.Switch n zero source h = let same : switch_input n + 0 ≡ switch_input n = omega arith in subst (λ k. wire_at n.wires k ≡ Some source) (sym same) h
used_own type.Switch n (suc i) source h = let no : ⊥ = cc in absurd no
used_own other n i source h = let same : 0 + i ≡ i = omega arith in subst (λ k. wire_at n.wires k ≡ Some source) (sym same) h

-- each question of a visit is a used wire of the node
pub visit_asks : (files : FileMap) (nodes : List Node) (x : ℕ) → Asks (IsUsedWire nodes x) (visit files x (node_of nodes x))
visit_asks files nodes x = by (node_of nodes x) refl
  where
    by : (found : Option Node) → node_of nodes x ≡ found → Asks (IsUsedWire nodes x) (visit files x found)
    by None is = tt
    by (Some n) is = if_built (is_built n.node_type)
      where
        if_built : (b : Bool) → Asks (IsUsedWire nodes x) (visit_if b files x n)
        if_built false = tt
        if_built true =
            asks_all (IsUsedWire nodes x) x (sockets_of n) (λ inputs. Visit.Give (at_node x (made files n inputs)))
            (sockets_wired (IsUsedWire nodes x) (first_used n.node_type n) (needs_inputs n.node_type) (wires_used_by n.node_type n)
            (λ i source wire. record {
              wired = ap (λ f. wire_at (wires_of f) (first_used n.node_type n + i)) is ∙ used_own n.node_type n i source wire;
              used = wired_at (used_wires (node_of nodes x)) i source (ap (λ f. wire_at (used_wires f) i) is ∙ wire);
            }))
            (λ inputs. tt)

-- each end of a visit is as Q says
abbrev pub Ends : (Outcome → Type 0) → Visit → Type 0
Ends Q (Visit.Give outcome) = Q outcome
Ends Q (Visit.Ask input source more) = (g : Geo) → Ends Q (more g)

ends_one : (Q : Outcome → Type 0) (x input : ℕ) (is_needed : Bool) (wire : Option ℕ) (more : Option Geo → Visit) → Q (Err (failed x (fault.NoInput input))) → ((g : Option Geo) → Ends Q (more g)) → Ends Q (ask x input is_needed wire more)
ends_one Q x input is_needed (Some source) more unwired rest = λ g. rest (Some g)
ends_one Q x input true None more unwired rest = unwired
ends_one Q x input false None more unwired rest = rest None

ends_all : (Q : Outcome → Type 0) (x : ℕ) (sockets : List Socket) (more : List (Option Geo) → Visit) → ((input : ℕ) → Q (Err (failed x (fault.NoInput input)))) → ((inputs : List (Option Geo)) → Ends Q (more inputs)) → Ends Q (ask_all x sockets more)
ends_all Q x [] more unwired rest = rest []
ends_all Q x (s ∷ sockets) more unwired rest =
    ends_one Q x s.input s.is_needed s.wire (λ g. ask_all x sockets (λ inputs. more (g ∷ inputs))) (unwired s.input)
    (λ g. ends_all Q x sockets (λ inputs. more (g ∷ inputs)) unwired (λ inputs. rest (g ∷ inputs)))

-- a visit ends with an unwired input, a type that isn't built, or what the node makes
pub visit_ends : (Q : Outcome → Type 0) (files : FileMap) (x : ℕ) (found : Option Node) → ((input : ℕ) → Q (Err (failed x (fault.NoInput input)))) → Q (Err (failed x fault.NotYet))
    → ((n : Node) → found ≡ Some n → (inputs : List (Option Geo)) → Q (at_node x (made files n inputs))) → Ends Q (visit files x found)
visit_ends Q files x None unwired unbuilt own = unbuilt
visit_ends Q files x (Some n) unwired unbuilt own = by (is_built n.node_type)
  where
    by : (b : Bool) → Ends Q (visit_if b files x n)
    by false = unbuilt
    by true = ends_all Q x (sockets_of n) (λ inputs. Visit.Give (at_node x (made files n inputs))) unwired (own n refl)

-- what a visit gives is an end of it, or what a source gives
pub run_ends : (Q : Outcome → Type 0) (go : ℕ → Outcome) (v : Visit) → Ends Q v → Asks (λ input source. Q (go source)) v → Q (run go v)
run_ends Q go (Visit.Give outcome) ends asked = ends
run_ends Q go (Visit.Ask input source more) ends asked = by (go source) asked.0 (λ g. run_ends Q go (more g) (ends g) (asked.1 g))
  where
    by : (first : Outcome) → Q first → ((g : Geo) → Q (run go (more g))) → Q (then_with first (λ g. run go (more g)))
    by (Ok g) here rest = rest g
    by (Err f) here rest = here

same_then : {A B E : Type 0} (r : Result A E) (f g : A → Result B E) → ((a : A) → f a ≡ g a) → then_with r f ≡ then_with r g
same_then (Ok a) f g same = same a
same_then (Err e) f g same = refl

-- a visit gives the same where its sources do
pub same_run : (f g : ℕ → Outcome) (v : Visit) → Asks (λ input source. f source ≡ g source) v → run f v ≡ run g v
same_run f g (Visit.Give outcome) same = refl
same_run f g (Visit.Ask input source more) same =
    ap (λ r. then_with r (λ geo. run f (more geo))) same.0
    ∙ same_then (g source) (λ geo. run f (more geo)) (λ geo. run g (more geo)) (λ geo. same_run f g (more geo) (same.1 geo))

same_made : (files others : FileMap) (t : NodeType) (parms : List (List ℕ)) → (t ≡ type.File → files (parm_at parms 0) ≡ others (parm_at parms 0)) → (inputs : List (Option Geo)) → node_geo files t parms inputs ≡ node_geo others t parms inputs
same_made files others type.File parms file inputs = ap (λ load. limited (file_geo load)) (file refl)
same_made files others other parms file inputs = refl

-- a node's visit is the same where its file is
pub same_visit : (files others : FileMap) (x : ℕ) (found : Option Node) → ((n : Node) → found ≡ Some n → n.node_type ≡ type.File → files (parm_at n.parms 0) ≡ others (parm_at n.parms 0)) → visit files x found ≡ visit others x found
same_visit files others x None file = refl
same_visit files others x (Some n) file = by (is_built n.node_type)
  where
    by : (b : Bool) → visit_if b files x n ≡ visit_if b others x n
    by false = refl
    by true =
        let same : made files n ≡ made others n = λ i inputs. same_made files others n.node_type n.parms (file n refl) inputs i in
        ap (λ (make : List (Option Geo) → Result Geo Fault). ask_all x (sockets_of n) (λ inputs. Visit.Give (at_node x (make inputs)))) same

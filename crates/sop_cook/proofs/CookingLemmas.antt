-- A cook that goes on.
use Rattle.std.proofs.Common.{◌≡◌, Bool, true, ℕ, zero, suc, ◌<◌, ◌≤◌, List, [], ◌∷◌, length, get_or, refl, sym, ◌∙◌, ap, subst, arith}
use Rattle.std.specs.Prelude.{All, Option, None, Some, IfSome, IsSome, IsTrue, Contains, option_map}
use Rattle.std.proofs.lemmas.List.Elements.{All-head, All-tail}
use Rattle.sop_net.specs.Network.{node_of, wired, wire_at, used_wires, used_sources}
use Rattle.sop_net.specs.Sockets.{Socket, sockets_from, sockets_of}
use Rattle.sop_net.proofs.UsedLemmas.{wired_at}
use Rattle.sop_net.specs.declared.node.Node.{Node}
use Rattle.sop_net.specs.declared.node_type.NodeType.{NodeType}
use Rattle.sop_cook.specs.declared.serial.Cooking.{Cooking}
use Rattle.sop_basic.specs.Loads.{file_in}
use Rattle.sop_cook.specs.Visit.{Outcome}
use Rattle.sop_cook.specs.SerialCook.{cook_of}
use Rattle.sop_cook.specs.Made.{is_built}
use Rattle.sop_cook.specs.Parts.{IsKept, AreFilled}
use Rattle.sop_pages.specs.Moves.{times}
use Rattle.sop_vault.specs.Keyed.{at}
use Rattle.sop_vault.specs.Vaults.{VaultMap}
use Rattle.sop_cook.specs.Cooking.{nodes_of, keys_of, gives, IsRunning, RunsOn}
use Rattle.sop_cook.proofs.KeptLemmas.{kept_stays}

pub same_gives : (a b : Cooking) → b.net.now ≡ a.net.now → b.loaded.now ≡ a.loaded.now → ◌≡◌ {A = ℕ → Outcome} (gives b) (gives a)
same_gives a b net loaded =
    ap (λ n. λ (x : ℕ). cook_of (file_in b.loaded.now) n.nodes x) net ∙ ap (λ l. λ (x : ℕ). cook_of (file_in l) a.net.now.nodes x) loaded

pub same_nodes : (a b : Cooking) → b.net.now ≡ a.net.now → nodes_of b ≡ nodes_of a
same_nodes a b net = ap (λ n. n.nodes) net

-- only what is kept changes
pub runs_with : (v : VaultMap) (a b : Cooking) → b.net.now ≡ a.net.now → b.loaded.now ≡ a.loaded.now → IsKept v (gives a) (nodes_of a) b.kept → RunsOn a v b
runs_with v a b net loaded kept = record {
  net = net;
  loaded = loaded;
  running =
      subst (λ (go : ℕ → Outcome). IsKept v go (nodes_of b) b.kept) (sym (same_gives a b net loaded))
      (subst (λ nodes. IsKept v (gives a) nodes b.kept) (sym (same_nodes a b net)) kept);
}

pub stays : (v : VaultMap) (a : Cooking) → IsRunning v a → RunsOn a v a
stays v a running = record { net = refl; loaded = refl; running = running }

pub went_on : (a b : Cooking) (v : VaultMap) (c : Cooking) (w : VaultMap) → RunsOn a v b → RunsOn b w c → RunsOn a w c
went_on a b v c w first then = record { net = then.net ∙ first.net; loaded = then.loaded ∙ first.loaded; running = then.running }

-- what stands at its keys stays
pub runs_still : (a b : Cooking) (v w : VaultMap) → RunsOn a v b → ((k : ℕ) → 1 ≤ times k (keys_of b) → at w.geos k ≡ at v.geos k) → RunsOn a w b
runs_still a b v w on same = record { net = on.net; loaded = on.loaded; running = kept_stays v w (gives b) (nodes_of b) b.kept on.running same }

-- what holds of a node's sockets
pub sockets_known : (P : List Socket → Type 0) (found : Option Node) (sockets : List Socket) → option_map sockets_of found ≡ Some sockets → P sockets → IfSome found (λ n. P (sockets_of n))
sockets_known P None sockets h p = tt
sockets_known P (Some n) sockets h p = let same : sockets_of n ≡ sockets = cc in subst P (sym same) p

wire_there : (wires : List (Option ℕ)) (i : ℕ) (d : Option ℕ) → i < length wires → wire_at wires i ≡ get_or wires i d
wire_there [] i d lt = absurd (omega (arith, lt))
wire_there (wire ∷ wires) zero d lt = refl
wire_there (wire ∷ wires) (suc i) d lt = wire_there wires i d (omega (arith, lt))

-- the source of a wire that a node uses
pub source_there : (nodes : List Node) (x i : ℕ) (wires : List (Option ℕ)) (wire d : Option ℕ) → wires ≡ used_wires (node_of nodes x) → i < length wires → wire ≡ get_or wires i d
    → IfSome wire (λ source. Contains (used_sources nodes x) source)
source_there nodes x i wires None d used lt is = tt
source_there nodes x i wires (Some source) d used lt is =
    subst (λ ws. Contains (wired ws) source) used (wired_at wires i source (wire_there wires i d lt ∙ sym is))

-- keys for so many sockets
pub filled_from : (first : ℕ) (is_needed : Bool) (wires keys : List (Option ℕ)) → length keys ≡ length wires → All (λ key. IsTrue is_needed → IsSome key) keys → AreFilled (sockets_from first is_needed wires) keys
filled_from first is_needed [] [] same all = tt
filled_from first is_needed [] (key ∷ keys) same all = omega (arith, same)
filled_from first is_needed (wire ∷ wires) [] same all = omega (arith, same)
filled_from first is_needed (wire ∷ wires) (key ∷ keys) same all =
    let P : Option ℕ → Type 0 = λ key. IsTrue is_needed → IsSome key in
    (All-head P key keys all, filled_from (suc first) is_needed wires keys (omega (arith, same)) (All-tail P key keys all))

-- a node of a type that is built
pub built_known : (found : Option Node) (t : NodeType) → option_map (λ n. n.node_type) found ≡ Some t → is_built t ≡ true → IfSome found (λ n. IsTrue (is_built n.node_type))
built_known None t typed built = tt
built_known (Some n) t typed built = let same : n.node_type ≡ t = cc in ap is_built same ∙ built

-- The steps of a cook: what a node cooks to by its visit, and inputs that are asked for in turn.
use Rattle.std.proofs.Common.{◌≡◌, Bool, true, ℕ, suc, ◌+◌, ◌<◌, ◌≤◌, List, [], ◌∷◌, ◌++◌, length, drop, get_or, sym, ◌∙◌, ap, subst, arith, append_assoc, append-nil}
use Rattle.std.specs.Prelude.{Option, Some, Result, Err, IfSome, option_map}
use Rattle.std.proofs.lemmas.List.{drop_more}
use Rattle.std.proofs.lemmas.Grind.{common_steps}
use Rattle.sop_model.specs.declared.geo.Geo.{Geo}
use Rattle.sop_net.specs.declared.node.Node.{Node}
use Rattle.sop_net.specs.declared.node_type.NodeType.{NodeType}
use Rattle.sop_net.specs.Graph.{Within}
use Rattle.sop_net.specs.Network.{node_of, used_sources}
use Rattle.sop_net.specs.Sockets.{Socket, sockets_from, sockets_of}
use Rattle.sop_net.proofs.ReadLemmas.{read_node}
use Rattle.sop_cook.specs.declared.cook_end.CookEnd.{CookEnd}
use Rattle.sop_cook.specs.declared.cook_end.CookEnd.TheVariants as end
use Rattle.sop_basic.specs.Loads.{FileMap}
use Rattle.sop_cook.specs.Made.{made, is_built}
use Rattle.sop_cook.specs.Visit.{Outcome, at_node, Visit, ask, ask_all, visit_if, visit}
use Rattle.sop_cook.specs.SerialCook.{run, cook_of}
use Rattle.sop_cook.specs.Ends.{Tells}
use Rattle.sop_cook.specs.Parts.{GoesOn, EndsSo}
use Rattle.sop_cook.proofs.SerialCookLemmas.{cook_runs_visit}

-- the cook of a node is what its visit tells
pub told_visit : (files : FileMap) (nodes : List Node) (x : ℕ) (n : Node) (answer : Result Geo CookEnd) → Within (used_sources nodes) (length nodes) x → node_of nodes x ≡ Some n
    → Tells (run (cook_of files nodes) (visit files x (Some n))) answer → Tells (cook_of files nodes x) answer
told_visit files nodes x n answer within found h =
    subst (λ outcome. Tells outcome answer) (sym (cook_runs_visit files nodes x within ∙ ap (λ f. run (cook_of files nodes) (visit files x f)) found)) h

known : (P : Node → Type 0) (found : Option Node) (n : Node) → found ≡ Some n → IfSome found P → P n
known P found n is h = subst (λ f. IfSome f P) is h

-- the inputs were asked for, and the node made this of them
pub visit_made : (files : FileMap) (nodes : List Node) (x : ℕ) (t : NodeType) (inputs : List (Option Geo)) (answer : Result Geo CookEnd) → Within (used_sources nodes) (length nodes) x
    → option_map (λ n. n.node_type) (node_of nodes x) ≡ Some t → is_built t ≡ true → IfSome (node_of nodes x) (λ n. GoesOn (cook_of files nodes) (ask_all x (sockets_of n)) inputs)
    → ((n : Node) → node_of nodes x ≡ Some n → Tells (at_node x (made files n inputs)) answer) → Tells (cook_of files nodes x) answer
visit_made files nodes x t inputs answer within typed built on told =
    let r = read_node nodes x (λ n. n.node_type) t typed in
    let go = cook_of files nodes in
    told_visit files nodes x r.node answer within r.found
    (subst (λ outcome. Tells outcome answer)
    (sym (ap (λ b. run go (visit_if b files x r.node)) (ap is_built r.is ∙ built)
    ∙ known (λ n. GoesOn go (ask_all x (sockets_of n)) inputs) (node_of nodes x) r.node r.found on (λ inputs. Visit.Give (at_node x (made files r.node inputs)))))
    (told r.node r.found))

told_end : (go : ℕ → Outcome) (x : ℕ) (sockets : List Socket) (more : List (Option Geo) → Visit) (e : CookEnd) → EndsSo go (ask_all x sockets) e → Tells (run go (ask_all x sockets more)) (Err e)
told_end go x sockets more (end.Fault y f) ends = ends more
told_end go x sockets more end.Memory ends = tt

-- an input gave no geometry
pub visit_failed : (files : FileMap) (nodes : List Node) (x : ℕ) (t : NodeType) (e : CookEnd) → Within (used_sources nodes) (length nodes) x → option_map (λ n. n.node_type) (node_of nodes x) ≡ Some t → is_built t ≡ true
    → IfSome (node_of nodes x) (λ n. EndsSo (cook_of files nodes) (ask_all x (sockets_of n)) e) → Tells (cook_of files nodes x) (Err e)
visit_failed files nodes x t e within typed built ends =
    let r = read_node nodes x (λ n. n.node_type) t typed in
    let go = cook_of files nodes in
    told_visit files nodes x r.node (Err e) within r.found
    (subst (λ b. Tells (run go (visit_if b files x r.node)) (Err e)) (sym (ap is_built r.is ∙ built))
    (told_end go x (sockets_of r.node) (λ inputs. Visit.Give (at_node x (made files r.node inputs))) e (known (λ n. EndsSo go (ask_all x (sockets_of n)) e) (node_of nodes x) r.node r.found ends)))

behind : {A : Type 0} (more : List A → Visit) (xs : List A) (x : A) → ◌≡◌ {A = List A → Visit} (λ ys. more (xs ++ x ∷ ys)) (λ ys. more ((xs ++ x ∷ []) ++ ys))
behind more xs x = λ i ys. more (sym (append_assoc xs (x ∷ []) ys) i)

at_end : {A : Type 0} (more : List A → Visit) (xs : List A) → more (xs ++ []) ≡ more xs
at_end more xs = ap more (append-nil xs)

module _ (go : ℕ → Outcome) (x first : ℕ) (is_needed : Bool) (wires : List (Option ℕ)) where
  -- the first inputs were asked for, and gave these
  pub record Asked (i : ℕ) (inputs : List (Option Geo)) : Type 0 where
    pub so_far : (more : List (Option Geo) → Visit)
        → run go (ask_all x (sockets_from first is_needed wires) more) ≡ run go (ask_all x (sockets_from (first + i) is_needed (drop i wires)) (λ rest. more (inputs ++ rest)))

  pub asked_none : (inputs : List (Option Geo)) → inputs ≡ [] → Asked 0 inputs
  asked_none inputs none = subst (Asked 0) (sym none) (record {
    so_far = λ more. let same : first ≡ first + 0 = omega arith in ap (λ k. run go (ask_all x (sockets_from k is_needed wires) more)) same;
  })

  next : (i : ℕ) (inputs : List (Option Geo)) (wire d : Option ℕ) → i < length wires → get_or wires i d ≡ wire → Asked i inputs → (more : List (Option Geo) → Visit)
      → run go (ask_all x (sockets_from first is_needed wires) more)
      ≡ run go (ask x (first + i) is_needed wire (λ g. ask_all x (sockets_from (suc (first + i)) is_needed (drop (i + 1) wires)) (λ rest. more (inputs ++ g ∷ rest))))
  next i inputs wire d lt here asked more =
      asked.so_far more
      ∙ ap (λ l. run go (ask_all x (sockets_from (first + i) is_needed l) (λ rest. more (inputs ++ rest)))) (drop_more wires i d lt ∙ ap (λ w. w ∷ drop (i + 1) wires) here)

  pub asked_more : (i : ℕ) (inputs now : List (Option Geo)) (wire d : Option ℕ) (g : Option Geo) → i < length wires → get_or wires i d ≡ wire → Asked i inputs
      → GoesOn go (ask x (first + i) is_needed wire) g → now ≡ inputs ++ g ∷ [] → Asked (i + 1) now
  asked_more i inputs now wire d g lt here asked on is = subst (Asked (i + 1)) (sym is) (record {
    so_far = λ more.
        let turned : suc (first + i) ≡ first + (i + 1) = omega arith in
        next i inputs wire d lt here asked more
        ∙ on (λ g. ask_all x (sockets_from (suc (first + i)) is_needed (drop (i + 1) wires)) (λ rest. more (inputs ++ g ∷ rest)))
        ∙ ap (λ m. run go (ask_all x (sockets_from (suc (first + i)) is_needed (drop (i + 1) wires)) m)) (behind more inputs g)
        ∙ ap (λ k. run go (ask_all x (sockets_from k is_needed (drop (i + 1) wires)) (λ rest. more ((inputs ++ g ∷ []) ++ rest)))) turned;
  })

  pub asked_failed : (i : ℕ) (inputs : List (Option Geo)) (wire d : Option ℕ) (e : CookEnd) → i < length wires → get_or wires i d ≡ wire → Asked i inputs → EndsSo go (ask x (first + i) is_needed wire) e
      → EndsSo go (ask_all x (sockets_from first is_needed wires)) e
  asked_failed i inputs wire d (end.Fault y f) lt here asked ends = λ more.
      next i inputs wire d lt here asked more ∙ ends (λ g. ask_all x (sockets_from (suc (first + i)) is_needed (drop (i + 1) wires)) (λ rest. more (inputs ++ g ∷ rest)))
  asked_failed i inputs wire d end.Memory lt here asked ends = tt

  pub asked_all : (i : ℕ) (inputs : List (Option Geo)) → length wires ≤ i → Asked i inputs → GoesOn go (ask_all x (sockets_from first is_needed wires)) inputs
  asked_all i inputs all asked = λ more.
      let none : drop i wires ≡ [] = grind (arith, common_steps) in
      asked.so_far more ∙ ap (λ l. run go (ask_all x (sockets_from (first + i) is_needed l) (λ rest. more (inputs ++ rest)))) none ∙ ap (λ v. run go v) (at_end more inputs)

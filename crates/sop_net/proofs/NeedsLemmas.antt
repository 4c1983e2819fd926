-- The first node of each file name, and the walk upstream.
use Rattle.std.proofs.Common.{◌≡◌, ap, sym, refl, ◌∙◌, subst, ℕ, zero, suc, List, [], ◌∷◌, ◌++◌, length, arith, Bool, true, false, ◌||◌, if◌then◌else◌, append_assoc}
use Rattle.std.specs.Prelude.{Option, None, Some, Contains, All, flat_map, option_map, is_some}
use Rattle.std.specs.List.{list_any}
use Rattle.std.proofs.lemmas.List.{append-nil, length-append}
use Rattle.std.proofs.lemmas.List.Elements.{All-nil, All-cons, All-head, All-tail, All-push}
use Rattle.std.proofs.lemmas.List.Folds.{list_any-append}
use Rattle.std.proofs.lemmas.Slice.Eq.{bytes_eq-Decides}
use Rattle.sop_net.specs.Graph.{Within}
use Rattle.sop_net.specs.declared.node.Node.{Node}
use Rattle.sop_net.specs.declared.node_type.NodeType.{NodeType}
use Rattle.sop_net.specs.declared.node_type.NodeType.TheVariants as type
use Rattle.sop_net.specs.Network.{node_of, used_sources, IsLive}
use Rattle.sop_net.specs.Needs.{walk, file_of, file_of_node, file_of_type, IsFileNode, is_file_named, listed, with_file, first_files, needed}
use Rattle.sop_net.specs.Listing.{IsCovered, with_needs}
use Rattle.sop_net.proofs.UsedLemmas.{first_is, further}

longer : (xs : List ℕ) (x : ℕ) → xs ++ x ∷ [] ≡ xs → ⊥
longer xs x e = omega (arith, length-append xs (x ∷ []), ap length e)

module _ (nodes : List Node) where
  -- a node loads the file that it loads
  pub named-itself : (x : ℕ) (name : List ℕ) → file_of nodes x ≡ Some name → is_file_named (file_of nodes x) name ≡ true
  named-itself x name is = ap (λ f. is_file_named f name) is ∙ (bytes_eq-Decides name name).1 refl

  listed-more : (xs : List ℕ) (file : Option (List ℕ)) (x : ℕ) → (more : List ℕ) × (listed nodes xs file x ≡ xs ++ more)
  listed-more xs None x = ([], sym (append-nil xs))
  listed-more xs (Some name) x = by (list_any (λ y. is_file_named (file_of nodes y) name) xs)
    where
      by : (b : Bool) → (more : List ℕ) × ((if b then xs else xs ++ x ∷ []) ≡ xs ++ more)
      by true = ([], sym (append-nil xs))
      by false = (x ∷ [], refl)

  -- a file that is listed stays so, whatever comes behind
  listed-kept : (xs more : List ℕ) (file : Option (List ℕ)) (x : ℕ) → listed nodes xs file x ≡ xs → listed nodes (xs ++ more) file x ≡ xs ++ more
  listed-kept xs more None x h = refl
  listed-kept xs more (Some name) x h = by (list_any (λ y. is_file_named (file_of nodes y) name) xs) refl h
    where
      by : (b : Bool) → list_any (λ y. is_file_named (file_of nodes y) name) xs ≡ b → (if b then xs else xs ++ x ∷ []) ≡ xs → listed nodes (xs ++ more) (Some name) x ≡ xs ++ more
      by true here e =
          ap (λ b. if b then xs ++ more else (xs ++ more) ++ x ∷ [])
          (list_any-append (λ y. is_file_named (file_of nodes y) name) xs more ∙ ap (λ b. b || list_any (λ y. is_file_named (file_of nodes y) name) more) here)
      by false here e = absurd (longer xs x e)

  -- once a node's file is listed, the node changes nothing
  listed-again : (xs : List ℕ) (file : Option (List ℕ)) (x : ℕ) → file_of nodes x ≡ file → listed nodes (listed nodes xs file x) file x ≡ listed nodes xs file x
  listed-again xs None x is = refl
  listed-again xs (Some name) x is = by (list_any (λ y. is_file_named (file_of nodes y) name) xs) refl
    where
      by : (b : Bool) → list_any (λ y. is_file_named (file_of nodes y) name) xs ≡ b
          → listed nodes (if b then xs else xs ++ x ∷ []) (Some name) x ≡ (if b then xs else xs ++ x ∷ [])
      by true here = ap (λ b. if b then xs else xs ++ x ∷ []) here
      by false here =
          ap (λ b. if b then xs ++ x ∷ [] else (xs ++ x ∷ []) ++ x ∷ [])
          (list_any-append (λ y. is_file_named (file_of nodes y) name) xs (x ∷ []) ∙ ap (λ b. b || (is_file_named (file_of nodes x) name || false)) here ∙ ap (λ b. b || false) (named-itself x name is))

  pub first_files-append : (so_far xs ys : List ℕ) → first_files nodes so_far (xs ++ ys) ≡ first_files nodes (first_files nodes so_far xs) ys
  first_files-append so_far [] ys = refl
  first_files-append so_far (x ∷ xs) ys = first_files-append (with_file nodes so_far x) xs ys

  -- the list only grows at its end
  pub first_files-more : (so_far xs : List ℕ) → (more : List ℕ) × (first_files nodes so_far xs ≡ so_far ++ more)
  first_files-more so_far [] = ([], sym (append-nil so_far))
  first_files-more so_far (x ∷ xs) =
      let one = listed-more so_far (file_of nodes x) x in
      let rest = first_files-more (with_file nodes so_far x) xs in
      (one.0 ++ rest.0, rest.1 ∙ ap (λ l. l ++ rest.0) one.1 ∙ append_assoc so_far one.0 rest.0)

  pub covered-kept : (so_far xs : List ℕ) (y : ℕ) → IsCovered nodes so_far y → IsCovered nodes (first_files nodes so_far xs) y
  covered-kept so_far xs y h =
      let grown = first_files-more so_far xs in
      subst (λ l. IsCovered nodes l y) (sym grown.1) (listed-kept so_far grown.0 (file_of nodes y) y h)

  pub covered-itself : (so_far : List ℕ) (x : ℕ) → IsCovered nodes (with_file nodes so_far x) x
  covered-itself so_far x = listed-again so_far (file_of nodes x) x refl

  -- where all are covered, nothing is added
  pub first_files-covered : (so_far xs : List ℕ) → All (IsCovered nodes so_far) xs → first_files nodes so_far xs ≡ so_far
  first_files-covered so_far [] all = refl
  first_files-covered so_far (x ∷ xs) all =
      ap (λ l. first_files nodes l xs) (All-head (IsCovered nodes so_far) x xs all) ∙ first_files-covered so_far xs (All-tail (IsCovered nodes so_far) x xs all)

  -- all that was gone through is covered
  pub covered-all : (so_far xs : List ℕ) → All (IsCovered nodes (first_files nodes so_far xs)) xs
  covered-all so_far [] = All-nil (IsCovered nodes so_far)
  covered-all so_far (x ∷ xs) =
      All-cons (IsCovered nodes (first_files nodes (with_file nodes so_far x) xs)) x xs
      (covered-kept (with_file nodes so_far x) xs x (covered-itself so_far x))
      (covered-all (with_file nodes so_far x) xs)

same_flat_map : (f g : ℕ → List ℕ) (xs : List ℕ) → ((x : ℕ) → Contains xs x → f x ≡ g x) → flat_map f xs ≡ flat_map g xs
same_flat_map f g [] same = refl
same_flat_map f g (x ∷ xs) same =
    ap (λ l. l ++ flat_map f xs) (same x (first_is x xs)) ∙ ap (λ l. g x ++ l) (same_flat_map f g xs (λ y h. same y (further x y xs h)))

-- where each way up ends within the bound, one more changes nothing
one_more : (nodes : List Node) (k x : ℕ) → Within (used_sources nodes) k x → walk k nodes x ≡ walk (suc k) nodes x
one_more nodes zero x within = absurd within
one_more nodes (suc k) x within =
    ap (λ l. l ++ x ∷ []) (same_flat_map (walk k nodes) (walk (suc k) nodes) (used_sources nodes x) (λ y used. one_more nodes k y (within y used)))

-- the rule of the walk, which speaks of no bound
pub walk-rule : (nodes : List Node) (x : ℕ) → Within (used_sources nodes) (length nodes) x
    → walk (length nodes) nodes x ≡ flat_map (walk (length nodes) nodes) (used_sources nodes x) ++ x ∷ []
walk-rule nodes x within = one_more nodes (length nodes) x within

-- the files of a node: those of its sources, then its own
pub with_needs-rule : (nodes : List Node) (so_far : List ℕ) (x : ℕ) → Within (used_sources nodes) (length nodes) x
    → with_needs nodes so_far x ≡ with_file nodes (first_files nodes so_far (flat_map (walk (length nodes) nodes) (used_sources nodes x))) x
with_needs-rule nodes so_far x within =
    ap (first_files nodes so_far) (walk-rule nodes x within) ∙ first_files-append nodes so_far (flat_map (walk (length nodes) nodes) (used_sources nodes x)) (x ∷ [])

-- a node that loads a file is a file node, and stands
file_by_type : (node_type : NodeType) (n : Node) (name : List ℕ) → file_of_type node_type n ≡ Some name → node_type ≡ type.File
file_by_type type.File n name is = refl
file_by_type other n name is = let no : ⊥ = cc in absurd no

is_file_node : (nodes : List Node) (x : ℕ) (name : List ℕ) → file_of nodes x ≡ Some name → IsFileNode nodes x
is_file_node nodes x name is = by (node_of nodes x) refl is
  where
    by : (found : Option Node) → node_of nodes x ≡ found → file_of_node found ≡ Some name → IsFileNode nodes x
    by None here is = let no : ⊥ = cc in absurd no
    by (Some n) here is = ap (option_map (λ (m : Node). m.node_type)) here ∙ ap Some (file_by_type n.node_type n name is)

pub file_stands : (nodes : List Node) (x : ℕ) → IsFileNode nodes x → IsLive nodes x
file_stands nodes x file = by (node_of nodes x) refl file
  where
    by : (found : Option Node) → node_of nodes x ≡ found → option_map (λ (m : Node). m.node_type) found ≡ Some type.File → IsLive nodes x
    by None here is = let no : ⊥ = cc in absurd no
    by (Some n) here is = ap is_some here

-- only file nodes are listed
listed_files : (nodes : List Node) (so_far : List ℕ) (x : ℕ) (file : Option (List ℕ)) → file_of nodes x ≡ file → All (IsFileNode nodes) so_far → All (IsFileNode nodes) (listed nodes so_far file x)
listed_files nodes so_far x None is all = all
listed_files nodes so_far x (Some name) is all = by (list_any (λ y. is_file_named (file_of nodes y) name) so_far)
  where
    by : (b : Bool) → All (IsFileNode nodes) (if b then so_far else so_far ++ x ∷ [])
    by true = all
    by false = All-push (IsFileNode nodes) so_far x all (is_file_node nodes x name is)

first_are_files : (nodes : List Node) (so_far xs : List ℕ) → All (IsFileNode nodes) so_far → All (IsFileNode nodes) (first_files nodes so_far xs)
first_are_files nodes so_far [] all = all
first_are_files nodes so_far (x ∷ xs) all = first_are_files nodes (with_file nodes so_far x) xs (listed_files nodes so_far x (file_of nodes x) refl all)

pub needed_are_files : (nodes : List Node) (x : ℕ) → All (IsFileNode nodes) (needed nodes x)
needed_are_files nodes x = first_are_files nodes [] (walk (length nodes) nodes x) (All-nil (IsFileNode nodes))

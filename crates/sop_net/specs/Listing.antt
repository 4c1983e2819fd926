-- What stays while the list of needed files grows.
use Rattle.std.specs.Prelude.{◌≡◌, ◌≢◌, ℕ, Bool, true, List, ◌++◌, length, drop, All, AllPairs, Some, slice_get}
use Rattle.sop_net.specs.declared.node.Node.{Node}
use Rattle.sop_net.specs.Network.{IsLive, place_of}
use Rattle.sop_net.specs.Needs.{walk, with_file, first_files}

-- the list with the files that the cook of a node needs
abbrev pub with_needs : List Node → List ℕ → ℕ → List ℕ
with_needs nodes so_far x = first_files nodes so_far (walk (length nodes) nodes x)

-- a node loads no file, or one that is listed
abbrev pub IsCovered : List Node → List ℕ → ℕ → Type 0
IsCovered nodes so_far x = with_file nodes so_far x ≡ so_far

-- distinct nodes that stand, and what the marks by place say of them
pub record IsListing (nodes : List Node) (marks : List Bool) (so_far : List ℕ) : Type 0 where
  pub live : All (IsLive nodes) so_far
  pub distinct : AllPairs (λ x y. x ≢ y) so_far
  -- each file that the cook of a marked node needs is listed
  pub marked : (x place : ℕ) → place_of nodes x ≡ Some place → slice_get marks place ≡ Some true → All (IsCovered nodes so_far) (walk (length nodes) nodes x)

-- a list is written to the first places, and the places behind stay
pub record IsWritten (old new : List ℕ) (n : ℕ) (list : List ℕ) : Type 0 where
  pub count : n ≡ length list
  pub places : new ≡ list ++ drop n old

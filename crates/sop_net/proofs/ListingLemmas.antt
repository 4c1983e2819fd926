-- The list of needed files while it grows: what is written so far, and what the marks say.
use Rattle.std.proofs.Common.{◌≡◌, ◌≢◌, ap, sym, refl, ◌∙◌, subst, ℕ, zero, suc, ◌+◌, ◌<◌, ◌≤◌, ◌⊎◌, inl, inr, List, [], ◌∷◌, ◌++◌, length, take, drop, set, replicate, get_or, arith, Bool, true, false, if◌then◌else◌}
use Rattle.std.specs.Prelude.{Option, None, Some, All, AllPairs, flat_map, slice_get}
use Rattle.std.specs.List.{list_any}
use Rattle.std.proofs.lemmas.List.{length-append, append-nil, length-take-le, take-append-drop, take_all}
use Rattle.std.proofs.lemmas.List.Concat.{flat_map-append}
use Rattle.std.proofs.lemmas.List.Elements.{All-nil, All-push, All-weaker}
use Rattle.std.proofs.lemmas.List.Folds.{list_any_at}
use Rattle.std.proofs.lemmas.List.Quantifiers.{all_pairs_push}
use Rattle.std.proofs.lemmas.Slice.{drop-append-drop}
use Rattle.std.proofs.Math.Seq.{take-append_seam}
use Rattle.sop_net.specs.Graph.{Within}
use Rattle.sop_net.specs.declared.node.Node.{Node}
use Rattle.sop_net.specs.Network.{node_of, place_of, IsLive, wired, wire_at, used_wires, used_sources}
use Rattle.sop_net.specs.Needs.{walk, file_of, is_file_named, listed, with_file, first_files}
use Rattle.sop_net.specs.Listing.{IsCovered, IsListing, IsWritten, with_needs}
use Rattle.sop_net.proofs.UsedLemmas.{wired-past, wired-more}
use Rattle.sop_net.proofs.RoomLemmas.{same_number, no_more_than}
use Rattle.sop_net.proofs.NeedsLemmas.{first_files-append, first_files-more, first_files-covered, covered-kept, covered-all, named-itself, with_needs-rule}

-- the list before anything is listed
pub IsWritten-start : (old : List ℕ) (n : ℕ) → n ≤ length old → IsWritten old old n (take n old)
IsWritten-start old n h = record { count = sym (length-take-le n old h); places = sym (take-append-drop n old) }

pub listed-taken : (old new : List ℕ) (n : ℕ) (list : List ℕ) → IsWritten old new n list → take n new ≡ list
listed-taken old new n list w = ap (take n) w.places ∙ ap (λ k. take k (list ++ drop n old)) w.count ∙ take-append_seam list (drop n old)

pub count-within : (old new : List ℕ) (n : ℕ) (list : List ℕ) → IsWritten old new n list → n ≤ length new
count-within old new n list w = let e = w.count in omega (arith, ap length w.places, length-append list (drop n old), e)

-- one list written behind another
pub IsWritten-then : (old mid new : List ℕ) (m n : ℕ) (first second : List ℕ) → IsWritten old mid m first → IsWritten mid new n second → m ≤ n → IsWritten old new n second
IsWritten-then old mid new m n first second a b le = record {
  count = b.count;
  places = b.places ∙ ap (λ l. second ++ l) (ap (drop n) a.places ∙ drop-append-drop m old first n le (sym a.count));
}

-- the same list, by other names for the places and the count
pub same_written : (old into now : List ℕ) (m n : ℕ) (list : List ℕ) → now ≡ into → n ≡ m → IsWritten old into m list → IsWritten old now n list
same_written old into now m n list places count w = record {
  count = count ∙ w.count;
  places = places ∙ w.places ∙ ap (λ k. list ++ drop k old) (sym count);
}

grows : (xs ys more : List ℕ) → ys ≡ xs ++ more → length xs ≤ length ys
grows xs ys more e = omega (arith, ap length e, length-append xs more)

pub length-first_files : (nodes : List Node) (so_far xs : List ℕ) → length so_far ≤ length (first_files nodes so_far xs)
length-first_files nodes so_far xs = let grown = first_files-more nodes so_far xs in grows so_far (first_files nodes so_far xs) grown.0 grown.1

pub IsListing-start : (nodes : List Node) (n : ℕ) → IsListing nodes (replicate n false) []
IsListing-start nodes n = record {
  live = All-nil (IsLive nodes);
  distinct = λ i j d lt below. absurd (omega (arith, below));
  marked = λ x place at there. absurd (unmarked n place there);
}
  where
    unmarked : (n place : ℕ) → slice_get (replicate n false) place ≡ Some true → ⊥
    unmarked zero place h = cc
    unmarked (suc n) zero h = let same : false ≡ true = cc in cc
    unmarked (suc n) (suc place) h = unmarked n place h

-- a node is listed that is none of those listed
with_file-apart : (nodes : List Node) (so_far : List ℕ) (x : ℕ) → All (IsLive nodes) so_far → AllPairs (λ y z. y ≢ z) so_far → IsLive nodes x
    → All (IsLive nodes) (with_file nodes so_far x) × AllPairs (λ y z. y ≢ z) (with_file nodes so_far x)
with_file-apart nodes so_far x live distinct here = by (file_of nodes x) refl
  where
    by : (file : Option (List ℕ)) → file_of nodes x ≡ file → All (IsLive nodes) (listed nodes so_far file x) × AllPairs (λ y z. y ≢ z) (listed nodes so_far file x)
    by None is = (live, distinct)
    by (Some name) is = on (list_any (λ y. is_file_named (file_of nodes y) name) so_far) refl
      where
        new : list_any (λ y. is_file_named (file_of nodes y) name) so_far ≡ false → (k d : ℕ) → k < length so_far → get_or so_far k d ≡ x → ⊥
        new none k d below same =
            let found = list_any_at (λ y. is_file_named (file_of nodes y) name) so_far k d below (ap (λ y. is_file_named (file_of nodes y) name) same ∙ named-itself nodes x name is) in
            let no : ⊥ = cc in no

        on : (b : Bool) → list_any (λ y. is_file_named (file_of nodes y) name) so_far ≡ b
            → All (IsLive nodes) (if b then so_far else so_far ++ x ∷ []) × AllPairs (λ y z. y ≢ z) (if b then so_far else so_far ++ x ∷ [])
        on true any = (live, distinct)
        on false none = (All-push (IsLive nodes) so_far x live here, all_pairs_push (λ y z. y ≢ z) so_far x distinct (new none))

-- the places of a list hold what is listed next
pub room : (nodes : List Node) (so_far : List ℕ) (x : ℕ) → All (IsLive nodes) so_far → AllPairs (λ y z. y ≢ z) so_far → IsLive nodes x → length (with_file nodes so_far x) ≤ length nodes
room nodes so_far x live distinct here = let apart = with_file-apart nodes so_far x live distinct here in no_more_than nodes (with_file nodes so_far x) apart.0 apart.1

-- no more is listed than nodes stand
pub few_listed : (nodes : List Node) (marks : List Bool) (so_far : List ℕ) → IsListing nodes marks so_far → length so_far ≤ length nodes
few_listed nodes marks so_far h = no_more_than nodes so_far h.live h.distinct

-- a place that is marked now was marked, or it is the new one
marked_by : (marks : List Bool) (at place : ℕ) → slice_get (set marks at true) place ≡ Some true → (place ≡ at) ⊎ (slice_get marks place ≡ Some true)
marked_by [] at place h = inr h
marked_by (b ∷ marks) zero zero h = inl refl
marked_by (b ∷ marks) zero (suc place) h = inr h
marked_by (b ∷ marks) (suc at) zero h = inr h
marked_by (b ∷ marks) (suc at) (suc place) h = elim (marked_by marks at place h) [ inl e ↦ inl (ap suc e) | inr e ↦ inr e ]

-- a list that grew covers what it covered
covered-with_file : (nodes : List Node) (so_far : List ℕ) (x y : ℕ) → IsCovered nodes so_far y → IsCovered nodes (with_file nodes so_far x) y
covered-with_file nodes so_far x y h = covered-kept nodes so_far (x ∷ []) y h

-- a node is listed and marked, once what it needs is covered
pub IsListing-more : (nodes : List Node) (marks : List Bool) (so_far now : List ℕ) (x at : ℕ) → IsListing nodes marks so_far → IsLive nodes x → place_of nodes x ≡ Some at → now ≡ with_file nodes so_far x
    → All (IsCovered nodes now) (walk (length nodes) nodes x) → IsListing nodes (set marks at true) now
IsListing-more nodes marks so_far now x at h here place is covers =
    let apart = with_file-apart nodes so_far x h.live h.distinct here in
    record {
      live = subst (All (IsLive nodes)) (sym is) apart.0;
      distinct = subst (AllPairs (λ y z. y ≢ z)) (sym is) apart.1;
      marked = λ y other stands there.
          elim (marked_by marks at other there) [
            | inl e ↦ subst (λ z. All (IsCovered nodes now) (walk (length nodes) nodes z)) (same_number nodes x y at place (stands ∙ ap Some e)) covers
            | inr e ↦ All-weaker (IsCovered nodes so_far) (IsCovered nodes now)
                (λ z k. subst (λ l. IsCovered nodes l z) (sym is) (covered-with_file nodes so_far x z k)) (walk (length nodes) nodes y) (h.marked y other stands e)
          ];
    }

-- a mark, as the code reads it
pub marked_read : (marks : List Bool) (i : ℕ) → get_or marks i false ≡ true → slice_get marks i ≡ Some true
marked_read [] i h = let no : ⊥ = cc in absurd no
marked_read (b ∷ marks) zero h = ap Some h
marked_read (b ∷ marks) (suc i) h = marked_read marks i h

-- what a marked node needs is listed
pub nothing_new : (nodes : List Node) (marks : List Bool) (so_far : List ℕ) (x at : ℕ) → IsListing nodes marks so_far → place_of nodes x ≡ Some at → slice_get marks at ≡ Some true → with_needs nodes so_far x ≡ so_far
nothing_new nodes marks so_far x at h place there = first_files-covered nodes so_far (walk (length nodes) nodes x) (h.marked x at place there)

-- the list after the sources of the first used wires
abbrev pub after_wires : List Node → List ℕ → ℕ → ℕ → List ℕ
after_wires nodes so_far x i = first_files nodes so_far (flat_map (walk (length nodes) nodes) (wired (take i (used_wires (node_of nodes x)))))

pub after_wires-past : (nodes : List Node) (so_far : List ℕ) (x i : ℕ) → wire_at (used_wires (node_of nodes x)) i ≡ None → after_wires nodes so_far x (i + 1) ≡ after_wires nodes so_far x i
after_wires-past nodes so_far x i here = ap (λ l. first_files nodes so_far (flat_map (walk (length nodes) nodes) l)) (wired-past (used_wires (node_of nodes x)) i here)

pub after_wires-more : (nodes : List Node) (so_far : List ℕ) (x i source : ℕ) → wire_at (used_wires (node_of nodes x)) i ≡ Some source
    → after_wires nodes so_far x (i + 1) ≡ with_needs nodes (after_wires nodes so_far x i) source
after_wires-more nodes so_far x i source here =
    let go = walk (length nodes) nodes in
    let before = wired (take i (used_wires (node_of nodes x))) in
    ap (λ l. first_files nodes so_far (flat_map go l)) (wired-more (used_wires (node_of nodes x)) i source here)
    ∙ ap (first_files nodes so_far) (flat_map-append go before (source ∷ []))
    ∙ first_files-append nodes so_far (flat_map go before) (go source ++ [])
    ∙ ap (first_files nodes (after_wires nodes so_far x i)) (append-nil (go source))

-- after all inputs, the node itself is left
pub after_wires-all : (nodes : List Node) (so_far : List ℕ) (x i : ℕ) → Within (used_sources nodes) (length nodes) x → length (used_wires (node_of nodes x)) ≤ i
    → with_needs nodes so_far x ≡ with_file nodes (after_wires nodes so_far x i) x
after_wires-all nodes so_far x i within all =
    with_needs-rule nodes so_far x within
    ∙ ap (λ wires. with_file nodes (first_files nodes so_far (flat_map (walk (length nodes) nodes) (wired wires))) x) (sym (take_all i (used_wires (node_of nodes x)) all))

-- the invariant of a visit's loop, one input on
pub written_more : (nodes : List Node) (old into new : List ℕ) (start x i source m n : ℕ) → wire_at (used_wires (node_of nodes x)) i ≡ Some source
    → IsWritten old into m (after_wires nodes (take start old) x i) → IsWritten into new n (with_needs nodes (take m into) source) → IsWritten old new n (after_wires nodes (take start old) x (i + 1))
written_more nodes old into new start x i source m n wire a b =
    let list = after_wires nodes (take start old) x i in
    let second = subst (λ l. IsWritten into new n (with_needs nodes l source)) (listed-taken old into m list a) b in
    let longer = length-first_files nodes list (walk (length nodes) nodes source) in
    let first = a.count in
    let last = second.count in
    subst (IsWritten old new n) (sym (after_wires-more nodes (take start old) x i source wire))
    (IsWritten-then old into new m n list (with_needs nodes list source) a second (omega (arith, longer, first, last)))

pub listing_more : (nodes : List Node) (marks : List Bool) (old into : List ℕ) (start x i source m : ℕ) → wire_at (used_wires (node_of nodes x)) i ≡ Some source
    → IsWritten old into m (after_wires nodes (take start old) x i) → IsListing nodes marks (with_needs nodes (take m into) source) → IsListing nodes marks (after_wires nodes (take start old) x (i + 1))
listing_more nodes marks old into start x i source m wire a h =
    let list = after_wires nodes (take start old) x i in
    subst (IsListing nodes marks) (ap (λ l. with_needs nodes l source) (listed-taken old into m list a) ∙ sym (after_wires-more nodes (take start old) x i source wire)) h

-- what a visit returns: the node itself was listed
pub written_all : (nodes : List Node) (old into new : List ℕ) (start x i m n : ℕ) → Within (used_sources nodes) (length nodes) x → length (used_wires (node_of nodes x)) ≤ i
    → IsWritten old into m (after_wires nodes (take start old) x i) → IsWritten into new n (with_file nodes (take m into) x) → IsWritten old new n (with_needs nodes (take start old) x)
written_all nodes old into new start x i m n within all a b =
    let list = after_wires nodes (take start old) x i in
    let second = subst (λ l. IsWritten into new n (with_file nodes l x)) (listed-taken old into m list a) b in
    let longer = length-first_files nodes list (x ∷ []) in
    let first = a.count in
    let last = second.count in
    subst (IsWritten old new n) (sym (after_wires-all nodes (take start old) x i within all))
    (IsWritten-then old into new m n list (with_file nodes list x) a second (omega (arith, longer, first, last)))

pub listing_all : (nodes : List Node) (marks : List Bool) (so_far : List ℕ) (x i at : ℕ) → Within (used_sources nodes) (length nodes) x → length (used_wires (node_of nodes x)) ≤ i
    → IsLive nodes x → place_of nodes x ≡ Some at → IsListing nodes marks (after_wires nodes so_far x i) → IsListing nodes (set marks at true) (with_needs nodes so_far x)
listing_all nodes marks so_far x i at within all here place h =
    IsListing-more nodes marks (after_wires nodes so_far x i) (with_needs nodes so_far x) x at h here place (after_wires-all nodes so_far x i within all)
    (covered-all nodes so_far (walk (length nodes) nodes x))

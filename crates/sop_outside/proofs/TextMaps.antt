-- Look-ups and changes of a map by text are those of the map by bytes.
use Rattle.std.proofs.Common.{◌≡◌, ℕ, List, [], ◌∷◌, Some, cond, refl, ap, ◌∙◌, sym}
use Rattle.std.specs.BTreeMap.{BTreeMap, Updates, is_at}
use Rattle.std.specs.Cmp.Lexicographic.{slice_cmp, nat_list_cmp_total, nat_list_eq_equiv}
use Rattle.std.specs.FinMap.{find, get, insert, get-from_entries, get-insert, same_map, slice_cmp-IsAntisymmetric, nat_cmp-IsAntisymmetric}
use Rattle.std.specs.Map.{lookup}
use Rattle.std.specs.Ordering.{nat_cmp}
use Rattle.std.specs.Prelude.{map, String, string_bytes, string_cmp, bytes_eq}
use Rattle.std.proofs.lemmas.Map.Text.{is_eq-slice_cmp, btree_map_updates_text}
use Rattle.sop_outside.specs.TextMaps.{by_bytes}

find-entries : {Y X : Type 0} (entries : List (String Y × X)) (name : List ℕ) → find (slice_cmp nat_cmp) name (map (λ entry. (string_bytes entry.0, entry.1)) entries) ≡ lookup (is_at (λ k. slice_cmp nat_cmp name (string_bytes k))) entries
find-entries [] name = refl
find-entries (entry ∷ entries) name = ap (cond _ (Some entry.1)) (find-entries entries name)

-- a look-up by bytes is one by text
pub get-by_bytes : {Y X : Type 0} (entries : List (String Y × X)) (name : List ℕ) → get (by_bytes entries) name ≡ lookup (is_at (λ k. slice_cmp nat_cmp name (string_bytes k))) entries
get-by_bytes entries name = get-from_entries nat_list_cmp_total _ name ∙ find-entries entries name

-- a change at one text inserts there
pub by_bytes-updates : {Y X : Type 0} (old new : BTreeMap (String Y) X) (name : String Y) (value : X) → Updates string_cmp old new name (Some value) → by_bytes new.entries ≡ insert (by_bytes old.entries) (string_bytes name) value
by_bytes-updates old new name value updates =
    same_map nat_list_cmp_total (slice_cmp-IsAntisymmetric nat_cmp-IsAntisymmetric) _ _ (λ other.
    get-by_bytes new.entries other
    ∙ btree_map_updates_text (string_bytes name) old new (Some value) updates other
    ∙ ap (λ found. cond (bytes_eq (string_bytes name) other) (Some value) found) (sym (get-by_bytes old.entries other))
    ∙ ap (λ same. cond same (Some value) (get (by_bytes old.entries) other)) (nat_list_eq_equiv.symm (string_bytes name) other ∙ sym (is_eq-slice_cmp other (string_bytes name)))
    ∙ sym (get-insert nat_list_cmp_total (by_bytes old.entries) (string_bytes name) value other))

use Rattle.std.proofs.Common.{◌≡◌, ℕ, List, ap, sym, refl, inl, inr}
use Rattle.std.specs.Prelude.{◌⊎◌}
use Rattle.sop_model.specs.declared.class.Class.{Class}
use Rattle.sop_model.specs.declared.class.Class.TheVariants.{Detail, Vertex}
use Rattle.sop_model.specs.declared.geo.Geo.{Geo}
use Rattle.sop_model.specs.Rows.{reordered}
use Rattle.sop_cells.specs.Shelves.{ShelfPages}
use Rattle.sop_cells.proofs.PlaceLemmas.{stays}
use Rattle.sop_columns.specs.Names.{NameTable}
use Rattle.sop_columns.proofs.NameLemmas.{grows_none}
use Rattle.sop_sheets.specs.Sheets.{SheetLists, places_of, geo_of, IsSheet, Becomes}
use Rattle.sop_sheets.proofs.sheet.Sheet.reorder.Goals as goal

-- of the detail and of vertices nothing changes
kept : (g : Geo) (class : Class) (perm : List ℕ) → (class ≡ Detail) ⊎ (class ≡ Vertex) → g ≡ reordered g class perm
kept g class perm (inl is) = ap (λ (other : Class). reordered g other perm) (sym is)
kept g class perm (inr is) = ap (λ (other : Class). reordered g other perm) (sym is)

still : (s : ShelfPages) (n : NameTable) (sheet : SheetLists) (g : Geo) → IsSheet s n sheet → geo_of s n sheet ≡ g → Becomes s s n n sheet sheet g
still s n sheet g is same = record { step = record { shifts = stays s s (places_of sheet) refl; grows = grows_none n; sheet = is }; geo = same }

pub returns-in-Detail-clause-ok : goal.returns-in-Detail-clause-ok
returns-in-Detail-clause-ok c =
    still c.args.shelf.now c.args.names.now c.args.self.now _ c.requires.sheet (kept (geo_of c.args.shelf.now c.args.names.now c.args.self.now) c.args.class c.args.perm.now c.in-Detail.is)

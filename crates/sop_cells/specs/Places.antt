-- Places of a column: each holds a page of the shelf's own store, or one of its base.
use Rattle.std.specs.Prelude.{ℕ, List, [], ◌∷◌}
use Rattle.sop_pages.specs.Pages.{Store, IsLive}
use Rattle.sop_cells.specs.declared.place.Place.{Place}
use Rattle.sop_cells.specs.declared.place.Place.TheVariants.{Own, Base}

-- The ids of the own pages, one for each place that holds one: only these are counted.
abbrev pub own : List Place → List ℕ
own [] = []
own (Own id ∷ places) = id ∷ own places
own (Base id ∷ places) = own places

-- What the places hold of the base is live there.
abbrev pub AreBased : Store → List Place → Type 0
AreBased base [] = Unit {0}
AreBased base (Own id ∷ places) = AreBased base places
AreBased base (Base id ∷ places) = IsLive base id × AreBased base places

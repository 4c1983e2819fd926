-- Why a call of a vault may be refused, by the geometry that stood there. Want of memory may come from any of them. Of two causes the
-- one that is named first comes.
use Rattle.std.specs.Prelude.{⊤, ◌≡◌, ◌≢◌, ℕ, Bool, false, List, None, codes}
use Rattle.std.specs.Str.{bytes_eq}
use Rattle.sop_model.specs.declared.class.Class.{Class}
use Rattle.sop_model.specs.declared.class.Class.TheVariants.{Detail, Prim, Point, Vertex}
use Rattle.sop_model.specs.declared.geo.Geo.{Geo}
use Rattle.sop_model.specs.declared.geo.Head.{Head}
use Rattle.sop_model.specs.Geometry.{IsWithin}
use Rattle.sop_model.specs.Rows.{head_named, group_named, attr_added, group_added, points_added, prim_added, vertices_added, ArePoints, ArePlaces}
use Rattle.sop_model.specs.Appending.{appended}
use Rattle.sop_vault.specs.declared.vault_end.VaultEnd.{VaultEnd}
use Rattle.sop_vault.specs.declared.vault_end.VaultEnd.TheVariants.{Exists, NoAttr, NoPoint, Limit, Memory}

-- the geometry would have more elements, heads or groups than a geometry may have
abbrev pub PassesLimit : Geo → Type 0
PassesLimit g = IsWithin g → ⊥

-- an attribute behind the others: its name is there; it isn't, and there is no room
abbrev pub attr_refused : Class → Head → Geo → VaultEnd → Type 0
attr_refused class head g Exists = head_named g class head.name ≢ None
attr_refused class head g Limit = (head_named g class head.name ≡ None) × PassesLimit (attr_added g class head)
attr_refused class head g Memory = ⊤
attr_refused class head g _ = ⊥

-- an attribute away: there is none of this name
abbrev pub gone_refused : Class → List ℕ → Geo → VaultEnd → Type 0
gone_refused class name g NoAttr = head_named g class name ≡ None
gone_refused class name g Memory = ⊤
gone_refused class name g _ = ⊥

-- a group behind the others: its name is there; it isn't, and there is no room
abbrev pub group_refused : Class → List ℕ → Geo → VaultEnd → Type 0
group_refused class name g Exists = group_named g class name ≢ None
group_refused class name g Limit = (group_named g class name ≡ None) × PassesLimit (group_added g class name)
group_refused class name g Memory = ⊤
group_refused class name g _ = ⊥

-- points behind the others: there is no room
abbrev pub points_refused : ℕ → Geo → VaultEnd → Type 0
points_refused n g Limit = PassesLimit (points_added g n)
points_refused n g Memory = ⊤
points_refused n g _ = ⊥

-- a primitive behind the others: one of its points isn't there; all are, and there is no room
abbrev pub prim_refused : Bool → List ℕ → Geo → VaultEnd → Type 0
prim_refused closed points g NoPoint = ArePoints g points → ⊥
prim_refused closed points g Limit = ArePoints g points × PassesLimit (prim_added g closed points)
prim_refused closed points g Memory = ⊤
prim_refused closed points g _ = ⊥

-- vertices at the ends of primitives: one of the primitives or points isn't there; all are, and there is no room
abbrev pub vertices_refused : List (ℕ × ℕ) → Geo → VaultEnd → Type 0
vertices_refused adds g NoPoint = ArePlaces g adds → ⊥
vertices_refused adds g Limit = ArePlaces g adds × PassesLimit (vertices_added g adds)
vertices_refused adds g Memory = ⊤
vertices_refused adds g _ = ⊥

-- one geometry behind another: there is no room
abbrev pub append_refused : Geo → Geo → VaultEnd → Type 0
append_refused a b Limit = PassesLimit (appended a b)
append_refused a b Memory = ⊤
append_refused a b _ = ⊥

-- a geometry of rows: it passes a limit
abbrev pub rows_refused : Geo → VaultEnd → Type 0
rows_refused g Limit = PassesLimit g
rows_refused g Memory = ⊤
rows_refused g _ = ⊥

-- the name isn't that of the points' `P`
abbrev pub IsNoPosition : Class → List ℕ → Type 0
IsNoPosition Point name = bytes_eq (codes "P") name ≡ false
IsNoPosition Detail name = ⊤
IsNoPosition Prim name = ⊤
IsNoPosition Vertex name = ⊤

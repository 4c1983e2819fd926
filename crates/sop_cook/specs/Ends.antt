-- How a cook ends: with exactly what the node gives, a fault at a node that stands, or a geometry that is well made.
use Rattle.std.specs.Prelude.{◌≡◌, ℕ, ⊤, List, Result, Ok, Err, IsTrue, unwrap_or}
use Rattle.sop_model.specs.declared.geo.Geo.{Geo}
use Rattle.sop_model.specs.Faults.{has_named_node}
use Rattle.sop_model.specs.Geometry.{empty_geo, IsGood, Fits}
use Rattle.sop_vault.specs.Keyed.{at}
use Rattle.sop_vault.specs.Vaults.{VaultMap}
use Rattle.sop_net.specs.declared.node.Node.{Node}
use Rattle.sop_net.specs.Network.{IsLive}
use Rattle.sop_cook.specs.declared.cook_end.CookEnd.{CookEnd}
use Rattle.sop_cook.specs.declared.cook_end.CookEnd.TheVariants as end
use Rattle.sop_cook.specs.Visit.{Outcome, failed}

-- the code answers exactly what the node gives, or want of memory
abbrev pub Tells : Outcome → Result Geo CookEnd → Type 0
Tells outcome (Ok g) = outcome ≡ Ok g
Tells outcome (Err (end.Fault x f)) = outcome ≡ Err (failed x f)
Tells outcome (Err end.Memory) = ⊤

-- the geometry at a key; at one without, the empty geometry
abbrev pub geo_at : VaultMap → ℕ → Geo
geo_at v key = unwrap_or (at v.geos key) empty_geo

-- an answer with a key, as one with its geometry
abbrev pub seen : {E : Type 0} → VaultMap → Result ℕ E → Result Geo E
seen v (Ok key) = Ok (geo_at v key)
seen v (Err e) = Err e

-- a well made geometry within its limits
pub record IsReady (g : Geo) : Type 0 where
  pub good : IsGood g
  pub fits : Fits g

-- the node of a fault stands
abbrev pub IsAtLive : List Node → CookEnd → Type 0
IsAtLive nodes (end.Fault x f) = IsLive nodes x
IsAtLive nodes end.Memory = ⊤

-- the node that a fault names has a name
abbrev pub HasNamedNode : CookEnd → Type 0
HasNamedNode (end.Fault x f) = IsTrue (has_named_node f)
HasNamedNode end.Memory = ⊤

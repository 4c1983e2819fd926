-- What a row knows of the geometries in a vault: how many points one has, and that the first attribute of points is a vector.
use Rattle.std.specs.Prelude.{◌≡◌, ◌≢◌, ℕ, Some, None, IsSomeAnd}
use Rattle.sop_model.specs.declared.class.Class.TheVariants.{Point}
use Rattle.sop_model.specs.declared.geo.Geo.{Geo}
use Rattle.sop_model.specs.declared.value.Kind.TheVariants.{Vector}
use Rattle.sop_model.specs.Geometry.{count_of}
use Rattle.sop_model.specs.Rows.{kind_at, HasHead}
use Rattle.sop_vault.specs.Keyed.{Keyed, at}

-- so many points, each with a place
pub record HasPlaces (points : ℕ) (g : Geo) : Type 0 where
  pub many : count_of g Point ≡ points
  pub head : HasHead g Point 0
  pub vector : kind_at g Point 0 ≡ Some Vector

-- the key has such a geometry now, and every other has what it had
pub record Leaves (old new : Keyed Geo) (key points : ℕ) : Type 0 where
  pub here : IsSomeAnd (at new key) (HasPlaces points)
  pub others : (other : ℕ) → other ≢ key → at new other ≡ at old other

-- a key that was free has such a geometry now, and every other has what it had
pub record Makes (old new : Keyed Geo) (key points : ℕ) : Type 0 where
  pub was_free : at old key ≡ None
  pub leaves : Leaves old new key points

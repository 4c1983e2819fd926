mod Examples
mod RowExamples
pub mod VerticesLemmas
pub mod PrimitivesLemmas
pub mod LimitsLemmas
pub mod PlacesLemmas
pub mod PlainLemmas
pub mod PlainLimits
pub mod SampleLemmas
pub mod RowLists
pub mod FaultLemmas

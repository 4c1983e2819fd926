mod Examples
pub mod VisitLemmas
pub mod BasicFaults
pub mod CombineFaults
pub mod SerialCookLemmas
pub mod KeptLemmas
pub mod MakeLemmas
pub mod CookLemmas
pub mod CookingLemmas
pub mod HandLemmas

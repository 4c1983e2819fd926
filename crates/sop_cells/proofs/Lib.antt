pub mod PlaceLemmas
pub mod HeldLemmas
pub mod PageLists
pub mod SpotLemmas
pub mod SpareLemmas
pub mod LaidLemmas
pub mod CutLemmas
pub mod CopyLemmas
pub mod PartLemmas
pub mod JoinLemmas
pub mod FrameLemmas
mod ReachLemmas

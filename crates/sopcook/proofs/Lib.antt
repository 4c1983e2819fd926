pub mod LoadsLemmas
pub mod RequestLemmas
pub mod Prefixes
pub mod LineLemmas
pub mod EndingLemmas
pub mod PromiseLemmas

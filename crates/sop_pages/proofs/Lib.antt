pub mod StoreLemmas
pub mod MoveLemmas
mod Examples

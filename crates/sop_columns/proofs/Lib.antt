pub mod NameLemmas
mod ListLemmas
pub mod ValueLemmas
pub mod FittedLemmas
pub mod BitLemmas

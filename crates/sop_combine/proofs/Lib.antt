mod Examples
pub mod MarkLemmas
pub mod RowLemmas
pub mod GroupLemmas
pub mod MergeLemmas
pub mod BlastLemmas
pub mod CreateLemmas
pub mod CombineLemmas

pub mod NoMemory
pub mod TableLemmas
pub mod PlaceLemmas
pub mod RankLemmas
pub mod KeptLemmas
pub mod NameLemmas
pub mod Membership
pub mod GraphLemmas
pub mod OrderLemmas
pub mod DefaultLemmas
pub mod AddLemmas
pub mod Searches
pub mod ValueLemmas
pub mod StagedLemmas
pub mod ChangeLemmas
pub mod SetLemmas
pub mod FlagLemmas
pub mod WireLemmas
pub mod WireSteps
pub mod RemoveLemmas
pub mod SwitchLemmas
pub mod UsedLemmas
pub mod ReadLemmas
pub mod RoomLemmas
pub mod NeedsLemmas
pub mod ListingLemmas
mod NeedsExamples
mod Examples

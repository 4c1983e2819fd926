pub mod Claims
pub mod Views
pub mod BoardRule
pub mod Passes
pub mod Ends
pub mod StepEvents

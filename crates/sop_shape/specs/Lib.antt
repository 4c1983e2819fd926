pub mod Shapes
pub mod Groups
pub mod Tests
pub mod Placing

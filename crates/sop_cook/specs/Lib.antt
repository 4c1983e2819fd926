pub mod Made
pub mod Visit
pub mod SerialCook
pub mod Laws
pub mod Ends
pub mod Keys
pub mod Parts
pub mod Cooking

pub mod Cells
pub mod Weights
pub mod NamePlaces
pub mod NameOrders
pub mod NameSets

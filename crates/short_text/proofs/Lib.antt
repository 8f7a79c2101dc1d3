pub mod Fronts
pub mod Storages

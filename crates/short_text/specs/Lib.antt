pub mod Front
pub mod Storages
pub mod private

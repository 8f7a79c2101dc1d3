pub mod Decision
pub mod Following
pub mod Index
pub mod private

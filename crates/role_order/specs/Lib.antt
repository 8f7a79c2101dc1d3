pub mod Laws
pub mod NumberedEdges
pub mod Order
pub mod Places
pub mod Planned
pub mod private

-- Definitions that no public contract reaches: whoever calls or audits this crate need not read them.
pub mod Chunks
pub mod Growth
pub mod Passes
pub mod Places
pub mod Rooms

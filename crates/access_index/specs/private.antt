-- Definitions that no public contract reaches: whoever calls or audits this crate need not read them.
pub mod Barring
pub mod Changing
pub mod Reaching

-- Definitions that no public contract reaches: whoever calls or audits this crate need not read them.
pub mod Found
pub mod Numbered

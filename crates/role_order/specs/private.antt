-- Definitions that no public contract reaches: whoever calls or audits this crate need not read them.
pub mod Checked
pub mod Numbered
pub mod Runs

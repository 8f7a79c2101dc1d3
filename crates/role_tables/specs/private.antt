-- Definitions that no public contract reaches: whoever calls or audits this crate need not read them.
pub mod CreationSteps
pub mod GatheredRows
pub mod MetaRows
pub mod NamedTables
pub mod TableChanges
pub mod Texts
pub mod Transactions

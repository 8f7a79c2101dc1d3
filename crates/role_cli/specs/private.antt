-- Definitions that no public contract reaches: whoever calls or audits this crate need not read them.
pub mod ClosedConnection
pub mod FirstSubcommands
pub mod GivenArguments
pub mod SomeConnection

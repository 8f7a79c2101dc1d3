-- Definitions that no public contract reaches: whoever calls or audits this crate need not read them.
pub mod PreparedReply
pub mod ReadProgress
pub mod RequestAnswer

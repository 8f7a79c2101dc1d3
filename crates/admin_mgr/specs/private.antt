-- Definitions that no public contract reaches: whoever calls or audits this crate need not read them.
pub mod CheckTests
pub mod HolderRoles
pub mod Holders
pub mod ImportPlan
pub mod NumberedSeparation
pub mod OneRow
pub mod PlainPlan
pub mod PlanChanges
pub mod SeparationOfDuty
pub mod SessionContinuation

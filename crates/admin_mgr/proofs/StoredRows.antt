pub mod AcceptLaws
pub mod CheckLaws
pub mod GatherLaws
pub mod KeyLaws
pub mod RowSteps
pub mod StoredLaws
pub mod TestLaws
pub mod WithinLimits

pub mod Imports
pub mod PlanRows
pub mod StateAfter
pub mod StoredRows
pub mod Verdicts
pub mod Worked

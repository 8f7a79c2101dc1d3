pub mod Judging
pub mod Results
pub mod RowsFrom

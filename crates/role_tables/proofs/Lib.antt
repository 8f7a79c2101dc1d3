mod Events
mod Meanings
mod OfficeTables
mod Reading
mod Runs
mod StoredRows
pub mod OfficeHistory

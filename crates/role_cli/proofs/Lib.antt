mod Results
pub mod Acknowledged
pub mod Beginning
pub mod CsvText
pub mod Faults
pub mod FileRuns
pub mod FileWork
pub mod Getters
pub mod GivenValues
pub mod Machines
pub mod MemoryPaths
pub mod PathChanges
pub mod Served
pub mod Subcommands
pub mod Working

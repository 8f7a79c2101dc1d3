pub mod Known
pub mod Lists
pub mod Induction
pub mod Openings
pub mod InForce
pub mod Taken
pub mod Calls

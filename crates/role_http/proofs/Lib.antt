pub mod Digits
pub mod Failing
pub mod Fields
pub mod Heads
pub mod RouteLookup

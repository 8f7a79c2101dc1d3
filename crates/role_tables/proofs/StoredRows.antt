pub mod Changes
pub mod Texts
pub mod Transactions
pub mod Migration
pub mod Once
pub mod SameTrees

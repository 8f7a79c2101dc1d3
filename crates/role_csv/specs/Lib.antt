pub mod Assignments
pub mod Export
pub mod Records
pub mod TextLaws
pub mod private

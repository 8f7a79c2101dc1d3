pub mod Answer
pub mod Calls
pub mod Fields
pub mod Request
pub mod RequestContent
pub mod RequestLaws
pub mod Steps
pub mod private

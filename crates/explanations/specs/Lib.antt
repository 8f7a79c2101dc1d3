pub mod Conflicts
pub mod SessionReasons
pub mod UserReasons
pub mod private

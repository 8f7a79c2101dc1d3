pub mod Calls
pub mod Conflicts
pub mod Held
pub mod Range
pub mod Reasons
pub mod Results
pub mod private

pub mod ByName
pub mod GuessLaws
pub mod PlaceLaws

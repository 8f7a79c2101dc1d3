pub mod ImportLaws
pub mod ImportSteps
pub mod ImportTurns
pub mod ImportTwice
pub mod RecordLaws
pub mod UnionLaws

pub mod Answering
pub mod QuestionLaws
pub mod Questions
pub mod Report
pub mod Review
pub mod private

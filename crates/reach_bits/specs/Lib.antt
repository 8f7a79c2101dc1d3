pub mod Graph
pub mod Numbers
pub mod private

pub mod Appending
pub mod ChunkLists
pub mod Emptiness
pub mod Homes
pub mod Inserting
pub mod Merges
pub mod Omitting
pub mod Parts
pub mod Passing
pub mod Rooms
pub mod Sets
pub mod Skipping
mod SortedLists
pub mod Splitting
pub mod Taking
pub mod Turning

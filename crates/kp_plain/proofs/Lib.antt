pub mod SortedMap
pub mod Searched
pub mod Shows
pub mod Above
pub mod Listing
pub mod Replay
pub mod Keeping

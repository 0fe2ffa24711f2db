pub mod Deadline
pub mod Nodes
pub mod Walk
pub mod Due
pub mod Index

pub mod Groups
pub mod Watched
pub mod Tree
pub mod Facts
pub mod Asked

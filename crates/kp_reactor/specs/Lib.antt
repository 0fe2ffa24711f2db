pub mod Moves
pub mod Takes
pub mod Naming
pub mod Polls

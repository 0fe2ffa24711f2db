pub mod Lists
pub mod Gathered
pub mod Thoughts
pub mod Released
pub mod Drained
pub mod WholeTurns
pub mod Singled

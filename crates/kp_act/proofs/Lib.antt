pub mod Owners
pub mod Outcomes
pub mod Seen
pub mod Acts
pub mod Plans

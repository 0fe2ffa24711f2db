pub mod Place
pub mod Beside
pub mod Picked
pub mod Outcomes
pub mod Kept
pub mod Counted

pub mod Ends
pub mod Output
pub mod Plans
pub mod Rounds
pub mod Serving
pub mod Ticks

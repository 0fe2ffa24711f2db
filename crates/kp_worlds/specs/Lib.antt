pub mod Standing
pub mod OneTree
pub mod Order
pub mod Forwards

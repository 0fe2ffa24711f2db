pub mod Form
pub mod Jute

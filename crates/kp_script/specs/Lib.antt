pub mod Events
pub mod Lines
pub mod Spelling
pub mod Messages

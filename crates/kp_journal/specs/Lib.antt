pub mod Gates
pub mod Frames
pub mod Heads
pub mod Journals
pub mod Answers

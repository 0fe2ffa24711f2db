pub mod Marked
pub mod Spans
pub mod Stretch

pub mod Given
pub mod Asks
pub mod Answers

pub mod Slashes
pub mod Digits
pub mod Numbered

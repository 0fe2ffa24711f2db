pub mod Watching
pub mod Spots
pub mod Owners
pub mod Numbered
pub mod Indexed
pub mod Gone

pub mod Cutting
pub mod Joining
pub mod Pieces
pub mod Places
pub mod Sent

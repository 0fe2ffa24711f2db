pub mod Places
pub mod Mended
pub mod Walked
pub mod Indexed
pub mod Taken
pub mod Listed
pub mod OneList
pub mod Again

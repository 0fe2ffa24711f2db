pub mod Leaves
pub mod Removals
pub mod Drafted
pub mod Telling
pub mod Places
pub mod Multis
pub mod Closed

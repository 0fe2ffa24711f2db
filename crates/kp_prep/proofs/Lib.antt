pub mod Carried
pub mod Within
pub mod Changes
pub mod Ledgered
pub mod Entries

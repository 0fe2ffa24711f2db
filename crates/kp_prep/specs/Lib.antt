pub mod Touching
pub mod Changing
pub mod Staged
pub mod Entries
pub mod Ledgers

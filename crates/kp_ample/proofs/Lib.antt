pub mod Gone
pub mod Counts
pub mod Tables
pub mod Serves
pub mod Turns
pub mod Steps

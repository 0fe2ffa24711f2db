pub mod Numbers
pub mod Parts
pub mod Rules
pub mod Appends
pub mod Steps
pub mod Variables
pub mod Members

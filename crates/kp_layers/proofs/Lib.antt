pub mod Overlaid
pub mod Chained
pub mod Cuts
pub mod Latest
pub mod Used
pub mod Listed
pub mod Counted
pub mod InGroups
mod Replaced
mod Filled

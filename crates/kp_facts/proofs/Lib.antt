pub mod Asked
pub mod Connected
pub mod Counted
pub mod Grouped
pub mod Gathered
pub mod Listing
pub mod Sizes
pub mod Watches

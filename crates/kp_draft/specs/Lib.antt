pub mod Drafts
pub mod Behind
pub mod Closing
pub mod Multis

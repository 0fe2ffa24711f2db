pub mod Stage
pub mod Texts
pub mod Keeping
pub mod Playing
pub mod Worked

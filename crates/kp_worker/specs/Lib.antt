pub mod Lists
pub mod Outside
pub mod Notes
pub mod Events
pub mod Turns
pub mod Ends
pub mod Calls
pub mod Singles

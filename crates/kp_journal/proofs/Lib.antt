pub mod Staging
pub mod Leaving
pub mod HeadBytes
pub mod Bodies
pub mod Framing
pub mod Standing
mod Reading
mod Batches
mod Whole
pub mod NewJournal

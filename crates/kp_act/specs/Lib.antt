pub mod Looks
pub mod Effects
pub mod Several
pub mod Among
pub mod Plans

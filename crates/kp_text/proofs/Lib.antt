pub mod Numerals
mod LineWords
pub mod Spelled
pub mod Parted
pub mod Visible
pub mod Hexadecimal
mod Versions
pub mod Choices
mod Prints
mod AclTexts
mod AclSteps
pub mod OperationTexts
mod MultiTexts
mod MultiSteps
mod CommandTexts
pub mod LineTexts
mod Shaped

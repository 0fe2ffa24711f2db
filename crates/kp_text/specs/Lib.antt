pub mod Words
pub mod AclWords
pub mod Commands
pub mod WordParts
pub mod Lines
pub mod Shape
pub mod Spelling
pub mod Texts

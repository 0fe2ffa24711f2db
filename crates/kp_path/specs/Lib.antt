pub mod Slash

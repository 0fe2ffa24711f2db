pub mod Ports
pub mod Tables

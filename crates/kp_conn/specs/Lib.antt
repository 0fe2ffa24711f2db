pub mod Codes
pub mod Connection
pub mod Fed
pub mod Frames
pub mod Packets
pub mod Queue

pub mod Replay
pub mod Parts
pub mod LayerKeys
pub mod Keeping
pub mod Shown
pub mod Adding

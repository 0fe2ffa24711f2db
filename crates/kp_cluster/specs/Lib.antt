pub mod World
pub mod Laws
pub mod WorldRuns
pub mod Epochs
pub mod Serving
pub mod Crossing

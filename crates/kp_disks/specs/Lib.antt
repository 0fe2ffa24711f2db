pub mod Faulty
pub mod Files

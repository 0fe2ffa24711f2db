pub mod HomeCalls
pub mod Lasting

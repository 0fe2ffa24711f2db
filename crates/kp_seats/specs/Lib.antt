pub mod Serving
pub mod Seating
pub mod Lending
pub mod Index
pub mod Walked

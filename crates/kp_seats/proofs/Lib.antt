pub mod Maps
pub mod Tied
pub mod Rising
pub mod Seated
pub mod Passing

pub mod Written
pub mod Quiet
pub mod Rounding
pub mod Leaving
pub mod ServedRounds
pub mod TickCalls

pub mod Histories
pub mod Views
pub mod TurnSteps
pub mod TurnCalls
pub mod OwnEvents
pub mod StopSteps

pub mod Deaths
pub mod Lists
pub mod Turning
pub mod TurnCalls
pub mod Mailing
pub mod MailsOf
pub mod LawSteps

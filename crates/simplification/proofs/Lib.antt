pub mod Ranks
pub mod RoundSteps
pub mod Tries

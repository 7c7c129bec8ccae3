pub mod Accepted
pub mod Calls
pub mod Replays
pub mod Tokens

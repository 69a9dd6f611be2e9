-- Laws of line ends, and lemmas for the code.
pub mod Laws
pub mod LineEnds
pub mod Joined
pub mod JoinedCalls
pub mod Examples
mod Spots
mod Written

-- What the functions' proofs share.
pub mod Steps
pub mod Rounds

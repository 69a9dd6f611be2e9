-- What the functions' proofs share.
pub mod Plain
pub mod At
pub mod Rounds
pub mod Tail

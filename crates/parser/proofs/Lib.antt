-- What the functions' proofs share.
pub mod Laws
pub mod Kit
pub mod Expect
pub mod Ahead
pub mod Counts
pub mod Bits
pub mod Rounds

-- What the functions' proofs share.
pub mod Arms
pub mod Whole

-- What the functions' proofs share.
pub mod Texts
pub mod Going

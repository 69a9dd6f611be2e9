-- What the functions' proofs share.
pub mod Laws
pub mod Steps
pub mod Texts
pub mod Quotes
pub mod Rest
pub mod Going

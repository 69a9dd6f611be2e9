-- What the functions' proofs share.
pub mod Depths
pub mod Laws
pub mod Tests

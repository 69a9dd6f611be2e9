-- Laws of places, and what the proof of `places` leans on.
pub mod Laws
pub mod Writes
pub mod Going

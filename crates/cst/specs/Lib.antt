-- What stands in the slices on the way, and laws for the proofs of a reading's functions.
pub mod Reading
pub mod Laws

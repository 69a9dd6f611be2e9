-- What ties the code to the grammar's definitions.
pub mod Rep
pub mod Sets
pub mod Ahead
pub mod Counts
pub mod Rounds

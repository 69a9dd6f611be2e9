-- The compiled reference's answers, which the grammar's definitions are held to.
pub mod Samples

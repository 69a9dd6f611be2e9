-- Parts of the grammar's definitions that the code has as functions of their own.
pub mod Path
pub mod Line
pub mod Instruction

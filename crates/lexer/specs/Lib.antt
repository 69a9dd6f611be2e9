-- The definitions of the lexer crate, and their laws.
pub mod Syntax
pub mod Chars
pub mod Lexer
pub mod Tokens
pub mod Slices
pub mod Code
pub mod Good
pub mod Laws
pub mod Agree
pub mod Kinds
pub mod Join
pub mod Examples

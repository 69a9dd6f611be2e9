-- The grammar as a definition, in document 01's order, to be held beside parser.rs; and the theorems over it.
-- Words: tokens as the grammar reads them. Look: lookahead. Run: the ways to put functions together. Message: the numbers.
-- Nesting: delimiter counts. Bump: small steps. Path: paths and groups. Line: line forms. Instruction, Block, Item.
-- Out: events, diagnostics and their places. Source: all of it from a source's bytes. Joins: demand 3 over tokens.
-- Endings: which block reports a missing closer. State: what a function does to what was written before.
-- Theorems has what is proved for all token lists and limits, Laws what the proofs rest on; both go on in proofs/.
-- Compute: sources as text, and what computes. Examples: document 01's table and other examples.
pub mod Words
pub mod Look
pub mod Run
pub mod Message
pub mod Nesting
pub mod Bump
pub mod Path
pub mod Line
pub mod Instruction
pub mod Block
pub mod Item
pub mod Out
pub mod Source
pub mod Joins
pub mod Endings
pub mod State
pub mod Laws
pub mod Theorems
pub mod Compute
pub mod Examples

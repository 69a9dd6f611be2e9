-- What is proved for all token lists and all limits; the theorems but InOrder are in proofs/Theorems, their definitions here.
-- Rounds: every message has a number from 1 to 53. FewOpen: how many nodes are open. HigherLimit: no depth diagnostic.
-- InOrder: diagnostics stand in the order of their tokens. Joined: diagnostics that stand at tokens of the first file.
pub mod Rounds
pub mod FewOpen
pub mod InOrder
pub mod HigherLimit
pub mod Joined

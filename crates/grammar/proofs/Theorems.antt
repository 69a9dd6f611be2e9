-- The theorems, for all token lists and all limits. InOrder, and what the statements define, are in specs/Theorems.
-- AllTokens: the leaves are the tokens. Rounds: every round of the item loop takes a token, and every message has a number from 1 to 53.
-- FewOpen: at most 2 * limit + 4 nodes open. FewEvents: at most 7 * T + 2. FewDiagnostics: at most 2 * T.
-- NoFuel: the loops without fuel.
-- HigherLimit: without the depth diagnostic the same at any higher limit. MissingEnds: which block reports a missing closer, and only it.
-- Joined, JoinedBytes: demand 3 over tokens and in bytes.
pub mod AllTokens
pub mod Rounds
pub mod FewOpen
pub mod FewEvents
pub mod FewDiagnostics
pub mod NoFuel
pub mod HigherLimit
pub mod MissingEnds
pub mod Joined
pub mod JoinedBytes

-- The theorems over the grammar of specs/, and what they rest on. Theorems has what is proved for all token lists and limits, Laws what the
-- proofs rest on, beside specs/Laws. Examples: one join, computed.
pub mod Laws
pub mod Theorems
pub mod Examples

-- What a reading answers and leaves, the call from C, and what holds of its calls: demand 3 among it.
-- Answer, Numbers, Call: document 01's table. Lent: the lent slices in a contract. Given: what a call gave, and demand 3's words. Accepts: when
-- the call returns 0.
-- JoinedTokens: what demand 3 leans on. InOrder: the starts of diagnostics never fall. Facts, MissingEnds: what holds of every call that
-- returned 0, and room that is enough. CutOff: what holds of every call that returned 2. HigherLimit: what
-- calls at two limits have in common.
-- Cases: three calls, each at a limit, and demand 3's premises one by one. Spaces: the limit on the source's length.
pub mod Answer
pub mod Lent
pub mod Numbers
pub mod Call
pub mod Given
pub mod Accepts
pub mod JoinedTokens
pub mod InOrder
pub mod Within
pub mod Facts
pub mod MissingEnds
pub mod CutOff
pub mod HigherLimit
pub mod Cases
pub mod Spaces

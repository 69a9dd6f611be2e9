-- JoinedCalls: demand 3. Facts, MissingEnds: what specs/ says under these names of every call that returned 0. CutOff: of every call that
-- returned 2. HigherLimit: of calls at a higher limit, where one gave no depth diagnostic; HigherNeeded: its premises are needed.
-- Cases: the premises of demand 3 as cases have them. Needed: which premises are needed. Instances: demand 3 and the bounds at concrete
-- calls. Limits: the same at other limits than the unit's, and limits that are refused.
pub mod JoinedCalls
pub mod Facts
pub mod MissingEnds
pub mod CutOff
pub mod HigherLimit
pub mod JoinedLines
pub mod Cases
pub mod Needed
pub mod Instances
pub mod Limits
pub mod HigherNeeded

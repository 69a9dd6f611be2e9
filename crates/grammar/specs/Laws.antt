-- What the theorems rest on: for each record a law for each way to put functions together, and then each function of the grammar: the first
-- ones here, from the blocks up in proofs/Laws.
-- Good (Ahead, Good, Stable): the tokens are kept, and what a function does in a file that goes on.
-- Live (Numbers, Here, Stops, Hush, Live, LiveLine): no fuel runs out, and what takes a token. Loops: without fuel.
-- Finish (Tame, Finish): what reports a missing closer, and that nothing comes behind. StableBlock: the depth diagnostic.
-- Visible: what a visibility leaves. Words: the text that a number stands for.
-- Shut: the closing `end`, in trees. Out, Code: events and diagnostics of what is put together.
pub mod Ahead
pub mod Good
pub mod Stable
pub mod StableBlock
pub mod Numbers
pub mod Here
pub mod Stops
pub mod Hush
pub mod Live
pub mod Loops
pub mod LiveLine
pub mod Tame
pub mod Finish
pub mod Visible
pub mod Words
pub mod Shut
pub mod Out
pub mod Code

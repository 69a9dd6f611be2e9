-- What the theorems rest on, beside the laws in specs/Laws: for each record each function of the grammar from the blocks up.
-- Good (Ahead, Stable, StableBlock, StableItem): the tokens are kept, and what a function does in a file that goes on.
-- Live (LiveBlock, LiveItem): no fuel runs out, and what takes a token.
-- Finish (FinishBlock, FinishItem): what reports a missing closer, and that nothing comes behind. High: how many nodes are open.
-- Cost (Cost, EventCost, DiagCost, DiagItem, DiagConstant): what each token pays for.
-- Ends, Join, Premise: the closing `end`, from trees and from events.
pub mod Ahead
pub mod Stable
pub mod StableBlock
pub mod StableItem
pub mod LiveBlock
pub mod LiveItem
pub mod FinishBlock
pub mod FinishItem
pub mod High
pub mod Cost
pub mod EventCost
pub mod DiagCost
pub mod DiagItem
pub mod DiagConstant
pub mod Ends
pub mod Join
pub mod Premise

-- The rounds of parse_block's loop, by the token that they meet, and the parts of the forms around a block.
pub mod Arms
pub mod Shapes

-- What parse_procedure is cut into, which item starts at a token, and what the whole parser leaves.
pub mod Procedure
pub mod Arms
pub mod Entry

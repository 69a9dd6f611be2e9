-- The tokens as the grammar reads them, and the first refused one.
pub mod Marks
pub mod Code
pub mod Laws
pub mod Found
pub mod Filter

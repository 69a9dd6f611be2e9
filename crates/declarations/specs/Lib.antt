-- What the declarations' functions are cut into.
pub mod Parts

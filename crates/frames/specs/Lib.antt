pub mod Gathered
pub mod Text

-- The laws of turning rows, and of the columns' words.
pub mod Turning
pub mod Columns

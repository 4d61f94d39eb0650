-- The calls that answer bounds from a plan file, in 01's words.
pub mod Bounds
pub mod Inner

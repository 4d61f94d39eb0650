-- Offsets and neighbours, in 01's words.
pub mod Axis

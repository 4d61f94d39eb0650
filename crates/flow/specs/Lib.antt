-- A flow and a plan, in 01's words.
pub mod Offsets
pub mod Plan
pub mod Ranges
pub mod Limits

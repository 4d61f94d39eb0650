-- Where a plan file has its numbers, in 01's words.
pub mod Bytes
pub mod Layout

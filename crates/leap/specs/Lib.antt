-- Cycles in which nothing moves and nobody enters.
pub mod Leap

-- The law of the cycle: k cycles in which nothing moves and nobody enters.
pub mod Idle
pub mod Words

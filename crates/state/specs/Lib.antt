-- The state and its words, in 01's words.
pub mod Layout
pub mod Register
pub mod State
pub mod Words
pub mod Read
pub mod Forms
pub mod Outcome
pub mod Reset
pub mod Writing
pub mod Inner
pub mod Facts
pub mod Tallied

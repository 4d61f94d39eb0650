-- Plan files: refusals, notes and what is written, in 01's words; and the refusals of a set of offers, in 02's.
pub mod Refusals
pub mod Notes
pub mod Written
pub mod Before
pub mod Set
pub mod Inner

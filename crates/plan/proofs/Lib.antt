-- The laws of plan files.
pub mod Refusals
pub mod Accepted
pub mod Ranges
pub mod Before
pub mod Written

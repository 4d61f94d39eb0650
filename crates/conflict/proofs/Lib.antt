-- The laws of conflicts.
pub mod Spread
pub mod Told

-- The registers that outputs reach.
pub mod Reach

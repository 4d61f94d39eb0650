-- Bounded tests, sums and repeated steps: definitions that know nothing of the project.
pub mod Bounded
pub mod Turns
pub mod Written
pub mod Count
pub mod Grid
pub mod Bits

-- The words with so many packets waiting.
pub mod Waits

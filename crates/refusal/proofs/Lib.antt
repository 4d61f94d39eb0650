-- The law of the causes' numbers.
pub mod Causes

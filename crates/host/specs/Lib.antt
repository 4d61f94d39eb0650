-- The numbers that the C interface answers.
pub mod Words

-- The words that a step leaves.
pub mod Next

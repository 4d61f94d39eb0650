-- The words that a step builds.
pub mod Next

-- Reset of an accepted file.
pub mod Fresh

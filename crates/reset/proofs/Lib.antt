-- The laws of reset.
pub mod Parts
pub mod Fresh
pub mod Leaves

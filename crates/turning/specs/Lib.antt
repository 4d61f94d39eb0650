-- Turning rows, in the words of 02, and how the code keeps them.
pub mod Turning
pub mod Columns

-- The laws of the calls on a plan file.
pub mod Opened
pub mod Asked
pub mod Numbers
pub mod Told

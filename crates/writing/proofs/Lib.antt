-- The laws of writing, and the file that comes back.
pub mod Bytes
pub mod Flows
pub mod Back

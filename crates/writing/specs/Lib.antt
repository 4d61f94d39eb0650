-- The parts of the file that is written from a state.
pub mod Parts

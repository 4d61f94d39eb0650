-- What a call answers, in 01's words, and the number of each cause.
pub mod Cause
pub mod Answer

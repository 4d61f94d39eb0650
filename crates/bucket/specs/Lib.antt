-- The regulator and its curve, in 01's words.
pub mod Regulator
pub mod Passed
pub mod Curve

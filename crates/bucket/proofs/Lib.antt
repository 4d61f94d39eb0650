-- The laws of the regulator and of its curve.
pub mod Curve
pub mod Regulator
pub mod Passed

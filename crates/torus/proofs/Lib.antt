-- The laws of offsets and neighbours, over every size.
pub mod Axis

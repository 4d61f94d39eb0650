-- The table of a plan file, byte by byte.
pub mod Decimal
pub mod Table
pub mod Inner

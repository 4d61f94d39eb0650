-- The laws of the table's text.
pub mod Digits
pub mod Rows

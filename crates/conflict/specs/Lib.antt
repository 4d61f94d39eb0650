-- Which flows conflict, in the words of 01 and 02.
pub mod Conflict
pub mod Inner

-- A set under way, and beside its single offers.
pub mod Added
pub mod Ends
pub mod OneByOne

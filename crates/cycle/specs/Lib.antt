-- One cycle on a state, in 01's words.
pub mod Seen
pub mod Step
pub mod Steps
pub mod Progress
pub mod Reasons
pub mod Offer
pub mod Set
pub mod Sent

-- The engine's definitions follow the packet book.
pub mod View
pub mod Outputs
pub mod Step
pub mod Delivery
pub mod Offer
pub mod Set
pub mod Forms
pub mod Memory
pub mod Steps
pub mod Calls
pub mod Reset
pub mod List
pub mod Lines
pub mod Parts
pub mod Accepted
pub mod Bursts
pub mod Answers

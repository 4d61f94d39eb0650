-- What a state's words give to a cycle, what offers keep of a state, and that a step keeps any state.
pub mod Facts
pub mod Sent
pub mod Offer
pub mod Carried
pub mod Keeps
pub mod Deliveries
pub mod Progress
pub mod Steps
pub mod Set
pub mod Reasons

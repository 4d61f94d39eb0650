-- Deliveries as five-word groups, in 02's words.
pub mod Groups
pub mod Inner

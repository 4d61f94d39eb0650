-- Feeding deliveries to the records of recent flights, in 02's words.
pub mod Feed
pub mod Feeding
pub mod Inner

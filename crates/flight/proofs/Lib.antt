-- The laws of flights.
pub mod Flight

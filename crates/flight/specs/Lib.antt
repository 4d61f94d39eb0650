-- Flights, in the words of 01 and 02.
pub mod Flight

-- Laws of a flow's recent flights.
pub mod Kept

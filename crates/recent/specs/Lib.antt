-- The record of a flow's recent flights, in 02's words.
pub mod Recent

-- The laws of a flow on the torus and of an offer's number, beside the functions' proofs.
pub mod Plan
pub mod Limits

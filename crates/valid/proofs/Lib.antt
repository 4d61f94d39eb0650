-- The law of the flows' ΔX at hand, beside the functions' proofs.
pub mod ColumnOffsets

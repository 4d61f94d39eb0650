-- The laws of a flow's turn.
pub mod Turn

-- The laws of many steps' turns.
pub mod Behind
pub mod Loop
pub mod Front

-- Walks of code by hand.
pub mod Loop
pub mod Local
pub mod Call
pub mod Spec
pub mod Names

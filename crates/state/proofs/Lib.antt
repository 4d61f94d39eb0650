-- The laws of the state and its words.
pub mod Words
pub mod Over
pub mod Causes
pub mod Holds
pub mod Read
pub mod View
pub mod Forms
pub mod Again
pub mod Tallied
pub mod Formed

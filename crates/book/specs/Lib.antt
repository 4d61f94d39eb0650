-- The packet book, in 01's words and order.
pub mod Line
pub mod Book
pub mod Cycle
pub mod Feed
pub mod Promises
pub mod Cases

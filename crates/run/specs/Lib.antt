-- The state of a packet book, whole lists of calls, and what the calls' answers tell of them.
pub mod View
pub mod Calls
pub mod List
pub mod Answers

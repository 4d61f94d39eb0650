-- The laws of entry.
pub mod Entrant
pub mod Clients

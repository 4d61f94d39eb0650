-- The laws of the walk over the routers.
pub mod Flows
pub mod Push
pub mod Exits
pub mod Idle
pub mod OnGrid

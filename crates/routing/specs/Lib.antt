-- What the walk over the routers leaves.
pub mod Walk
pub mod Sent

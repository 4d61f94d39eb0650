-- The grid of a torus's routers.
pub mod Grid

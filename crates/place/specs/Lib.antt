-- The link registers of a router, and where a packet can be.
pub mod Place
pub mod Input
pub mod InPlace

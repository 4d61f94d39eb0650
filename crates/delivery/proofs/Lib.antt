-- Laws of deliveries in groups, and of what a step delivers.
pub mod Groups
pub mod Genuine

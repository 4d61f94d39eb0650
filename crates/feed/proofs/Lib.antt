-- Laws of feeding.
pub mod Fed
pub mod Accepted
pub mod Feeding
pub mod Numbered

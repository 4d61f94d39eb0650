-- The laws: what the code's tests tell, bounded tests and sums, counts, parts of lists, and loops.
pub mod Cases
pub mod Bounded
pub mod Sum
pub mod Count
pub mod Keep
pub mod Parts
pub mod Stands
pub mod Grid
pub mod Turns
pub mod Written
pub mod Zeros
pub mod Bits
pub mod All

-- The laws of windows.
pub mod Bursts
pub mod Windows
pub mod BurstWindows
pub mod Demand
pub mod Rates
pub mod Gathered
pub mod Before

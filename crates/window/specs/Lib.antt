-- Windows, in the words of 01 and 02, and by 01's own conflicts.
pub mod Window
pub mod Rivals
pub mod Before

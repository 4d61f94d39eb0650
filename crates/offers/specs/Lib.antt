-- A set beside its single offers, and what inner functions promise of one under way.
pub mod OneByOne
pub mod Inner

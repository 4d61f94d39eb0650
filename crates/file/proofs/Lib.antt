-- The law of the tag.
pub mod Tag

-- The laws behind the conditions on a place.
pub mod InPlace

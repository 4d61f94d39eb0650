-- Who enters, as the walk finds it.
pub mod Entrants

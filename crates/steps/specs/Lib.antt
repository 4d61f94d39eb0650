-- What many steps ask for and keep, turn by turn.
pub mod Loop

-- Inner definitions: the two moves of which a turn is made. No demand cites them.
pub mod Moves

-- The laws that the proofs of this crate and of those above it cite.
-- Turns: the two moves are the turn of an operand.
pub mod Turns

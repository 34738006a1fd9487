-- Starred: the proof of the starred examples.
pub mod Starred

-- Starred: document 01's starred examples and what they say.
pub mod Starred

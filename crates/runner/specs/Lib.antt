-- The definitions that the contracts of this crate cite. To be believed: Causes, Calls, Statements.
-- Causes: what running a list judges, in document 01's order.
-- Calls: what running leaves in its buffers.
-- Statements: what is proved of the three lists of a table; the proofs are proofs/Theorems.antt.
-- Inner: what only inner functions cite.
pub mod Causes
pub mod Calls
pub mod Statements
pub mod Inner

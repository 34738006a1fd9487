-- The definitions that the contracts of this crate cite. To be believed: all but Inner. What a set of products is stands in crate netlist (Sets).
-- Causes: what accepting a list judges, in document 02's order.
-- Calls: what it answers.
-- Statements: what is proved of it; the proofs are proofs/Theorems.antt.
-- Inner: what only inner functions cite.
pub mod Causes
pub mod Calls
pub mod Statements
pub mod Inner

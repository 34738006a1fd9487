-- The definitions that the contracts of this crate cite.
-- To be believed:
-- Causes: what a product and an inverse judge, in document 01's order.
-- Calls: what each call answers, for every input.
-- Statements: what is proved of them under an accepted table; the proofs are proofs/Theorems.antt.
-- Inner, of which only inner functions speak:
-- Inner: operands without fault, what rows add, the states of the inverse's chain.
pub mod Causes
pub mod Calls
pub mod Statements
pub mod Inner

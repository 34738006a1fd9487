-- The definitions that the contracts of this crate cite.
-- Causes: what each call judges, in document 01's order.
-- Calls: what each call on operands answers, for every input.
-- Statements: what is proved of the calls beside their contracts; the proofs are proofs/Theorems.antt.
pub mod Causes
pub mod Calls
pub mod Statements

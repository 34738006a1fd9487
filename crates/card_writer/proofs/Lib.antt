-- The laws that the proofs of this crate cite.
-- Lengths: how long numbers, rows and cards are.
-- WriteSteps: the steps of the code that writes.
-- Theorems: the proofs of the statements in specs/Statements.antt.
pub mod Lengths
pub mod WriteSteps
pub mod Theorems

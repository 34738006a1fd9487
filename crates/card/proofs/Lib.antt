-- The laws that the proofs of this crate, and of the one that writes cards, cite.
-- Numbers: a number written and read, and by the bytes that are read.
-- Places: the places of a row's ones, as a list and as bytes.
-- Trips: rows and cards, written and read, both ways.
-- Stores: bytes that are stored at a place of a lent buffer.
-- ReadSteps: the steps of the code that reads.
-- Refusals: which faults a refused card can have.
-- Theorems: the proofs of the statements in specs/Statements.antt.
pub mod Numbers
pub mod Places
pub mod Trips
pub mod Stores
pub mod ReadSteps
pub mod Refusals
pub mod Theorems

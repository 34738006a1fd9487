-- The laws that the proofs of this crate and of those above it cite.
-- CallLaws, FaultFree: what the calls answer; operands without fault.
-- Theorems, CallTheorems: the proofs of the statements in specs/Statements.antt.
pub mod CallLaws
pub mod FaultFree
pub mod Theorems
pub mod CallTheorems

-- The laws that the proofs of this crate cite.
-- Entries, TypeTests: a rule of a list tested at all of its entries; the tests of types that antt computes.
-- Modulo: remainders of products and powers, and orders.
-- Soundness: what a test of types that is passed says.
-- Two: powers of 2 modulo a prime; why a width that 8 divides has no type.
-- TypeOrders: X9.62's choice and the least type, and where they differ.
-- TypeBound: the greatest type of the list; every p of it fits.
-- Cosets: x lies in 2^s·K exactly when x^T is 2^(T·s).
-- ResidueLaws, LogLaws: residues and their products; the loops that make a power and the logarithms.
-- RowLaws, AddLaws, TermLaws: tables made row by row, what is added to them, and the sum over K.
-- Answers: what the calls answer, by the fault that is given.
-- Theorems: the proofs of the statements in specs/Statements.antt.
pub mod Entries
pub mod Modulo
pub mod TypeTests
pub mod Soundness
pub mod Two
pub mod TypeOrders
pub mod TypeBound
pub mod Cosets
pub mod ResidueLaws
pub mod LogLaws
pub mod RowLaws
pub mod AddLaws
pub mod TermLaws
pub mod Answers
pub mod Theorems
mod PrimeField
mod DiscreteLogarithm
mod TypeLogarithm

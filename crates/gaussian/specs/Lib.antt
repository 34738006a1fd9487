-- The definitions that the contracts of this crate cite. Inner and Drawables are for inner functions alone; the others are believed.
-- Types: types of Gaussian normal bases, the two orders in which one is chosen, and the fixed list of the type of each width.
-- Table: the table of a width and a type.
-- Causes: what the calls judge.
-- Calls: what each call answers, for every input.
-- Inner: residues, logarithms and tables that are drawn. No demand cites it.
-- Drawables: that a width and a type can be drawn is a proposition, which the ghost field of a modulus asks for.
-- Statements: what is proved of the list, of the two orders and of drawn tables; the proofs are proofs/Theorems.antt.
pub mod Types
pub mod Table
pub mod Causes
pub mod Calls
pub mod Inner
pub mod Drawables
pub mod Statements

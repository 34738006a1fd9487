-- The definitions that the contracts of this crate cite, in document 01's order. Inner is for inner functions alone; the others are believed.
-- Numbers: the numbers of a card, written and read.
-- Rows: the rows of a card, written and read, for any range of rows.
-- Cards: a table's card, written and read.
-- Calls: what reading answers, for every input, and the buffer that it leaves.
-- Inner: what the code's steps through a card say. No demand cites it.
-- Statements: what is proved of cards that are written and read; the proofs are proofs/Theorems.antt.
pub mod Numbers
pub mod Rows
pub mod Cards
pub mod Calls
pub mod Inner
pub mod Statements

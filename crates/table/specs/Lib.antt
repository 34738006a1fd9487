-- The definitions that the contracts of this crate cite. Inner is for inner functions alone; the others are believed.
-- Carried: the four tables that the program carries.
-- Judgements: the verdicts on a table: its shape, and the rules 4 to 6 of the check, in document 01's order.
-- Rows: what a table that has passed the judgement of its shape is.
-- Calls: what each call on a table answers, for every input.
-- Inner: rows as carried operands, their sums, rules 5 and 6 as tests.
-- Statements: what is proved of the verdicts, the statements alone; their proofs are proofs/Theorems.antt.
pub mod Carried
pub mod Judgements
pub mod Rows
pub mod Calls
pub mod Inner
pub mod Statements

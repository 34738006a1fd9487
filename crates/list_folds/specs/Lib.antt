-- Inner definitions: no demand cites them.
-- TableFolds: what the public call stores, over the lists of crate netlist.
-- Cited by functions inside the crate alone: Folds, where a fold stands and what it has stored; Columns, the table's columns as
-- limbs; Terms, what is folded for each r, by the columns.
pub mod TableFolds
pub mod Folds
pub mod Columns
pub mod Terms

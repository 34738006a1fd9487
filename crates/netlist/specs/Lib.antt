-- The definitions that the contracts of this crate cite, in document 01's order. To be believed: all but Methods and Inner.
-- Gates: gates, words, numbers of gates by kind.
-- Lists: the plain, the reduced and the common list of a table.
-- Running: the values of a list's wires, and its result; words read as a list.
-- Counts: the numbers of gates, without the lists.
-- Judgements: what is judged of the gates of a list.
-- Sets: the products that are summed in each wire of a list, and those that are to be.
-- Calls: what each call answers, for every input.
-- Methods: the lists by their method, all numbers of a list in one answer.
-- Inner: what only inner functions cite.
-- Statements: what is proved of the lists; the proofs are proofs/Theorems.antt.
pub mod Gates
pub mod Lists
pub mod Running
pub mod Counts
pub mod Judgements
pub mod Sets
pub mod Calls
pub mod Methods
pub mod Inner
pub mod Statements

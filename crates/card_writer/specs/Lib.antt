-- The definitions that the contracts of this crate cite; what a table's card is stands in crate card. Inner is for inner functions alone;
-- the others are believed.
-- Calls: what writing answers, for every input, and the buffer that it leaves.
-- Inner: what the code's steps through a card say. No demand cites it.
-- Statements: what is proved of writing beside its contract; the proofs are proofs/Theorems.antt.
pub mod Calls
pub mod Inner
pub mod Statements

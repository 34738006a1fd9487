-- The definitions that the contracts of this crate cite. Those that a reader must believe:
-- Text: words, decimal numbers and lines as bytes, and the value that holds them.
-- Report: what the report program prints, for every input.
-- Statements: what is proved of the report beside the contracts; the proofs are proofs/Theorems.antt.
-- Inner, cited only by functions that aren't public:
-- Steps: what the code's steps make of a text and take for granted of a table.
pub mod Text
pub mod Report
pub mod Statements
pub mod Steps

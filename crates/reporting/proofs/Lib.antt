-- The laws that the proofs of this crate cite.
-- Decimals: the number of digits of a number in decimal.
-- Texts: bytes put after one another into a text.
-- Reports: the parts of a report, and what is read of a card.
-- Lengths: 128 bytes are enough for every report.
-- Verdicts: which faults a report can name.
-- Theorems: the proofs of the statements in specs/Statements.antt.
pub mod Decimals
pub mod Texts
pub mod Reports
pub mod Lengths
pub mod Verdicts
pub mod Theorems

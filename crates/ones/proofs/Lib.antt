-- The laws that the proofs of this crate and of those above it cite.
-- RowLimbs: rows of a table as limbs, their next one and their number of ones.
pub mod RowLimbs

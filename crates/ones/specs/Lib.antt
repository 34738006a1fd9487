-- Inner definitions: the rows of a table as limbs, and their ones. No demand cites them.
pub mod RowLimbs

-- Comparing: operands compared by their limbs and by their coordinates.
-- Squares: the square of an operand, limb by limb.
-- Shapes: tables without fault of shape: their rows, as they lie in the table and carried.
-- BasisOperands: the basis operands and products of them as operands.
-- Rules: rules 5 and 6 as tests of one row and of one pair.
-- CheckFaults: what holds of every fault that a part of the check can give.
-- RowSums: sums of rows: which products they are.
-- RowsAtOnes: the sum of the rows at the ones of an operand, below the width.
-- TableOnes: the ones of a table's bytes are those of its rows.
-- Theorems: the proofs of the statements in specs/Statements.antt.
pub mod Comparing
pub mod Squares
pub mod Shapes
pub mod BasisOperands
pub mod Rules
pub mod CheckFaults
pub mod RowSums
pub mod RowsAtOnes
pub mod TableOnes
pub mod Theorems

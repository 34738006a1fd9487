-- The laws of the definitions in specs/.
-- Monoid: sums of n terms in any commutative monoid.
-- Parity: bits added modulo 2, and the parity of a number.
-- Sums: laws of sums of numbers and of tests of every number below a bound.
-- Counts: sums that count, and sums over pairs.
-- Coordinates: laws of bytes and their coordinates.
-- Remainders: the remainder of a product.
-- TrailingZeros: the zeros below the lowest one of a number.
-- Loops: the invariant of a loop that fills a list.
-- Operands: laws of operands as bytes, by their coordinates.
-- Decisions: each test of the definitions is true exactly when its proposition holds.
-- Carrying: operands of W bytes and the same operands carried.
-- Index: the indices 0 .. p, added and subtracted modulo p + 1.
-- IndexSums: sums over all indices.
-- Vector: vectors of bits: turn, basis, linear combination, sum.
-- Reindexing: sums over all indices in another order.
-- Convolution: the ring of cyclic convolutions.
-- VectorProduct: the product of vectors under a table.
-- VectorField: the rules of a table are those of a field; powers and the inverse.
-- VectorForms: the product by pairs, by distances and by the places of ones.
-- VectorCounts: how many pairs have a coordinate in their product.
-- OperandVectors: operands as vectors.
-- TableVectors: tables, products and rules as vectors.
-- FieldVectors: the field of operands and that of vectors.
-- Logarithm: the logarithm rounded down.
-- Chain: the chain of doublings and addings: its powers and its number of products.
-- Theorems: the proofs of the statements in specs/Statements.antt.
-- CarriedTables: the check as a test that computes; the four carried tables pass it.
pub mod Monoid
pub mod Parity
pub mod Sums
pub mod Counts
pub mod Coordinates
pub mod Remainders
pub mod TrailingZeros
pub mod Loops
pub mod Operands
pub mod Decisions
pub mod Carrying
pub mod Index
pub mod IndexSums
pub mod Vector
pub mod Reindexing
pub mod Convolution
pub mod VectorProduct
pub mod VectorField
pub mod VectorForms
pub mod VectorCounts
pub mod OperandVectors
pub mod TableVectors
pub mod FieldVectors
pub mod Logarithm
pub mod Chain
pub mod Theorems
pub mod CarriedTables

-- The definitions that every contract cites, in document 01's order.
-- Sums: sums of numbers, and tests of every number below a bound.
-- Coordinates: the coordinates of a list of bytes, and the bytes of given coordinates.
-- Operands: operands, zero, one, sum, turn.
-- Tables: rows, products of two basis elements, ones.
-- Products: the plain and the reduced product.
-- Check: the rules 4 to 6 of the check.
-- Field: what a field is, and a field whose square is the turn.
-- Inverse: the chain of doublings and addings, and its number of products.
-- Quadratic: trace, and the solution of z² + z = c.
-- Statements: what is proved of all these, the statements alone; their proofs are proofs/Theorems.antt.
pub mod Sums
pub mod Coordinates
pub mod Operands
pub mod Tables
pub mod Products
pub mod Check
pub mod Field
pub mod Inverse
pub mod Quadratic
pub mod Statements

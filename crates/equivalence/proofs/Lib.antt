-- The laws of this crate.
-- GateLaws: the tests of the gates' form as code makes them, the wires of a gate that has passed, the ANDs among the first gates.
-- SquareLaws: the squares' bits in limbs, one product, a sum of two, one gate's square more.
-- OutputLaws: an output by the square of its gate.
-- AcceptLaws: what a list is that can be compared; outputs with the right products give the product, and back.
-- Theorems: the proofs of the statements in specs/Statements.antt.
pub mod GateLaws
pub mod SquareLaws
pub mod OutputLaws
pub mod AcceptLaws
pub mod Theorems

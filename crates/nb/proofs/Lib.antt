-- The laws of this crate's definitions.
-- PackLaws: equal answers; what comes back out of an answer; what is returned beside a fault has room in its bits.
-- Bounds: so have the values that the calls return.
pub mod PackLaws
pub mod Bounds

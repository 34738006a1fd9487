-- The laws that the proofs of this crate and of those above it cite.
-- ByteLists: lists of bytes.
-- LimbCoords, LimbLoops, LimbStores: limbs and their coordinates, what loops over limbs make, limbs stored as bytes.
-- SliceLaws: what the loops over slices make.
-- Reach: the limbs that a width is worked on in.
-- RaisedLimbs: limbs moved up, and the bits of two limbs in a row.
pub mod ByteLists
pub mod LimbCoords
pub mod LimbLoops
pub mod LimbStores
pub mod SliceLaws
pub mod Reach
pub mod RaisedLimbs

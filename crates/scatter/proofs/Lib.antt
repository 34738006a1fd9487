-- The laws of this crate's definitions.
-- CellLaws: limb by limb, what is added at a slot, what is seen and met.
-- OnesLaws: the ones of limbs, and what they add at their slots.
-- MoveLaws: coordinates moved up.
-- SpreadLaws: the limbs of a product that a width is worked on in; the sum of all slots, each moved up by its number.
pub mod CellLaws
pub mod OnesLaws
pub mod MoveLaws
pub mod SpreadLaws

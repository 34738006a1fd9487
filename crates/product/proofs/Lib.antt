-- The laws of this crate's definitions.
-- SoundOperands: what the calls on operands answer where there is no fault.
-- GatherLaws: the slots gathered.
-- KernelLaws: what rows add at the slots of their ones.
-- RowProducts: the product by a method, by the places of the ones in the method's rows.
-- TimesLaws: the product by either method.
-- ChainSteps: the steps of the inverse's chain.
-- Judged: what has passed where no fault is given, and the same causes carried and as W bytes.
-- Theorems: the proofs of the statements in specs/Statements.antt.
pub mod SoundOperands
pub mod GatherLaws
pub mod KernelLaws
pub mod RowProducts
pub mod TimesLaws
pub mod ChainSteps
pub mod Judged
pub mod Theorems

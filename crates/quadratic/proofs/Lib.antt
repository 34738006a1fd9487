-- The laws that the proofs of this crate and of those above it cite.
-- QuadraticLimbs: the trace and the solution of z² + z = c, in limbs.
pub mod QuadraticLimbs

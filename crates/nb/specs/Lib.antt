-- The definitions that the contracts of the C interface cite.
-- Packing: how an answer is packed into one number of 64 bits, and what comes back out of it.
-- Calls: what each call answers, for every input.
pub mod Packing
pub mod Calls

-- Inner definitions: a carried operand as limbs of 64 bits, on which the kernels work. No demand cites them.
pub mod Limbs

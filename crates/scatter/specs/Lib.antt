-- Inner definitions: the rows of a product's two methods; slots of limbs, and what the kernels make there. No demand cites them.
pub mod Methods
pub mod Cells

-- Inner definitions: what the contracts of the writer cite beside those of crate netlist. No demand cites them.
pub mod Inner

-- Inner definitions: no demand cites them.
-- Pairs: what the public calls store, over the lists of crate netlist.
pub mod Pairs

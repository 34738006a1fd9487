-- Faults and their causes, which every contract of a call cites.
-- Faults: document 01's number and values for each fault.
-- Causes: a cause of a fault, the fault of a list of causes, and what "exactly when" says of it.
-- FaultTable: document 01's table of faults, row by row, and the lists of a table's causes.
pub mod Faults
pub mod Causes
pub mod FaultTable

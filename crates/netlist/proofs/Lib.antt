-- The laws of the definitions in specs/.
-- FoldLaws: gates whose wires are earlier, runs, folds, gates by kind.
-- NetlistLaws: a list that starts with gates and then folds for each r; the run of a list on two operands.
-- ListLaws: the plain, the reduced and the common list of a table.
-- WordLaws: how many words a list has.
-- SizeLaws: the ones of a table, and the gates and words of its lists, at most.
-- Theorems: the proofs of the statements in specs/Statements.antt.
-- StoreLaws: stores of several elements in a row.
-- GateTests: the test of a list's gates and output wires decides.
-- SetTests: those of a list that is to be accepted decide.
-- SetLaws: the products that are summed in each wire.
-- FormLaws: the gates of the three lists are of the form that a list to be accepted has.
-- TableLaws: the bits of a table in its bytes, and bounds.
-- CallLaws: the numbers of all gates, and the answers of the calls.
-- Ranges: a test of the numbers below a bound, as an iterator gives them.
pub mod FoldLaws
pub mod NetlistLaws
pub mod ListLaws
pub mod WordLaws
pub mod SizeLaws
pub mod Theorems
pub mod StoreLaws
pub mod GateTests
pub mod SetTests
pub mod SetLaws
pub mod FormLaws
pub mod TableLaws
pub mod CallLaws
pub mod Ranges

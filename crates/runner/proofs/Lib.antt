-- The laws of the runner.
-- RunLaws: its tests, the value of a gate on bits, the loop that fills the wires, and the result.
-- JudgeLaws: what holds where no fault is given, and operands of W bytes judged as carried.
-- ReadLaws: the words of a list, read back and run. Theorems: the proof of the statements in specs/Statements.antt.
pub mod RunLaws
pub mod JudgeLaws
pub mod ReadLaws
pub mod Theorems

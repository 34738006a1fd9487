-- The proofs of the records in specs/.
-- CauseLaws: the cases of a fault. Numbers: which numbers faults have. CardTests: reading a card decides its causes.
-- NoFaults: calls that give no fault.
-- AnswerLaws: what comes out of an answer, and what a lent buffer holds. CarriedCalls, Reports: the parts of demand 1 of these names.
-- Demand1, Demand2, Demand3: the demands. Acceptance: which gate lists from elsewhere are accepted. Turns: turns by any count.
-- TypeChoice: the type that is chosen for a width. OneVerdictFewer: the check without number 7.
pub mod CauseLaws
pub mod Numbers
pub mod CardTests
pub mod AnswerLaws
pub mod CarriedCalls
pub mod NoFaults
pub mod Reports
pub mod Demand1
pub mod Demand2
pub mod Demand3
pub mod Acceptance
pub mod Turns
pub mod TypeChoice
pub mod OneVerdictFewer

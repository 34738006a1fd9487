-- The customer's demands, a record each, over the definitions that the contracts of the calls cite.
-- The causes of each call stand with it (specs/Causes.antt of its crate, and FaultTable of judging). CardCauses: those of a card.
-- Answers: what a call's answer and buffers are.
-- CarriedCalls: the calls on operands that are carried by value. Reports: the report program.
-- Demand1: every call answers every input, with its result or with the fault of the first cause.
-- Demand2: products, drawn tables and cards are what document 01 says.
-- Demand3: the check is exact; under an accepted table every product, list, count and inverse is right.
-- Acceptance: which gate lists from elsewhere are accepted, document 02, (b). Turns: turns by any count, document 02, (d).
-- TypeChoice: the type that is chosen for a width, document 02, (e). OneVerdictFewer: the check without number 7, document 02, (f).
pub mod CardCauses
pub mod Answers
pub mod CarriedCalls
pub mod Reports
pub mod Demand1
pub mod Demand2
pub mod Demand3
pub mod Acceptance
pub mod Turns
pub mod TypeChoice
pub mod OneVerdictFewer

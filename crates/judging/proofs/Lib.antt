-- The laws that the proofs of the crates above cite.
-- Tests: the tests that judgements make.
-- CauseLaws: the fault of a list of causes, for any list: exact, small, judged part by part.
-- Searches: causes that an index gives, and the steps of a loop that looks for the first.
-- Passed: what holds where the test of a cause fails, and back.
pub mod Tests
pub mod CauseLaws
pub mod Searches
pub mod Passed

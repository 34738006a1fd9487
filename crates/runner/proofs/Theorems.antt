-- The proof of Statements: theorem_runs.
use Rattle.netlist.specs.Lists.{plain, reduced, common}
use Rattle.netlist.proofs.ListLaws.{plain-sound, reduced-sound, common-sound}
use Rattle.runner.specs.Statements.{TheoremRuns}
use Rattle.runner.proofs.ReadLaws.{words-run}

pub theorem_runs : TheoremRuns
theorem_runs m table two is s = record {
  of_plain = words-run m (plain m table) (plain-sound m table two is s) two;
  of_reduced = words-run m (reduced m table) (reduced-sound m table two is s) two;
  of_common = words-run m (common m table) (common-sound m table two is s) two;
}

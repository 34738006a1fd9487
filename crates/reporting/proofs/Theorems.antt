-- The proofs of the statements in specs/Statements.antt.
use Rattle.reporting.specs.Statements.{ReportLaws}
use Rattle.reporting.proofs.Decimals.{count-fewest}
use Rattle.reporting.proofs.Lengths.{report-length}
use Rattle.reporting.proofs.Verdicts.{report-ends, never-three, never-eleven}

pub report-laws : ReportLaws
report-laws = record {
  digits = count-fewest;
  fits = report-length;
  refuses = report-ends;
  three = never-three;
  eleven = never-eleven;
}

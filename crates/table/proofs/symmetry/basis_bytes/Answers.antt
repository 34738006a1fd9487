-- `table::symmetry::basis_bytes` meets its contract.
use native.Mathlib.Omega.{arith}
use Rattle.table.proofs.BasisOperands.{basis-carried}
use Rattle.table.proofs.symmetry.basis_bytes.Goals as goal

pub returns : goal.returns
returns c = let p = c.requires in basis-carried _ _ p.0 p.1 (omega arith)

-- `list_pairs::pairs::put_row` meets its contract.
use Rattle.list_pairs.specs.Pairs.{pair_gate}
use Rattle.list_pairs.proofs.PutLaws.{PutTo}
use Rattle.list_pairs.proofs.pairs.put_row.Given as goal

abbrev pub invariant-loop-j : goal.invariant-loop-j
invariant-loop-j l = PutTo l.width (pair_gate l.mixed l.width l.i) l.n l.initial.out l.out l.k l.j

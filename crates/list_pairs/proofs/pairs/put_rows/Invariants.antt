-- `list_pairs::pairs::put_rows` meets its contract.
use Rattle.list_pairs.specs.Pairs.{row_gates}
use Rattle.list_pairs.proofs.PutLaws.{PutTo}
use Rattle.list_pairs.proofs.pairs.put_rows.Given as goal

abbrev pub invariant-loop-i : goal.invariant-loop-i
invariant-loop-i l = PutTo l.width (λ i'. row_gates l.mixed l.width i' l.width) l.n l.initial.out l.out l.k l.i

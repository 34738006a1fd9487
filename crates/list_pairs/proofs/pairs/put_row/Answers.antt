-- `list_pairs::pairs::put_row` meets its contract.
use native.Mathlib.Omega.{arith}
use Rattle.list_pairs.specs.Pairs.{row_gates}
use Rattle.list_pairs.proofs.PutLaws.{put-most, to_none, to-next, to-all, gates-most}
use Rattle.list_pairs.proofs.pairs.put_row.Goals as goal

pub loop-j-init : goal.loop-j-init
loop-j-init c = to_none _ _ _ _

pub put_pair-k-requires : goal.put_pair-k-requires
unfolding row_gates
put_pair-k-requires c =
    let a = c.args in
    let w = c.loop-j in
    (c.requires.0, omega arith, omega arith, omega (arith, c.requires.2, put-most w.j w.invariant.put (gates-most a.mixed a.width a.i w.j)))

pub loop-j-preserved : goal.loop-j-preserved
loop-j-preserved c = let p = c.put_pair-k in to-next c.loop-j.invariant (omega arith) p.ensures p.auto.out

pub returns : goal.returns
unfolding row_gates
returns c = to-all c.loop-j.invariant c.loop-j-test.false

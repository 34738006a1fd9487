-- `list_pairs::pairs::put_rows` meets its contract.
use Prim.Native.Nat.{◌*◌}
use native.Mathlib.Nat.{mul-le-mul_right}
use native.Mathlib.Omega.{arith}
use Rattle.list_pairs.specs.Pairs.{pair_gates}
use Rattle.list_pairs.proofs.PutLaws.{put-most, to_none, to-next, to-all, pairs-most}
use Rattle.list_pairs.proofs.pairs.put_rows.Goals as goal

pub loop-i-init : goal.loop-i-init
loop-i-init c = to_none _ _ _ _

pub put_row-k-requires : goal.put_row-k-requires
unfolding pair_gates
put_row-k-requires c =
    let a = c.args in
    let w = c.loop-i in
    (c.requires.0, c.loop-i-test.true, omega (arith, c.requires.1, put-most (w.i * a.width) w.invariant.put (pairs-most a.mixed a.width w.i), mul-le-mul_right {m = w.i} {n = a.width} a.width (omega arith)))

pub loop-i-preserved : goal.loop-i-preserved
loop-i-preserved c = let p = c.put_row-k in to-next c.loop-i.invariant (omega arith) p.ensures p.auto.out

pub returns : goal.returns
unfolding pair_gates
returns c = to-all c.loop-i.invariant c.loop-i-test.false

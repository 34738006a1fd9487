-- `limbs::limbs::limb_below` meets its contract.
use mathlib.Core.Path.{sym, ◌∙◌}
use native.Mathlib.Omega.{arith}
use lib.ListN.{get_or}
use Rattle.limbs.proofs.RaisedLimbs.{raised-in, raised-out}
use Rattle.limbs.proofs.limbs.limb_below.Goals as goal

pub returns-then-n-w : goal.returns-then-n-w
returns-then-n-w c = let a = c.args in c.limb_at.ensures ∙ sym (raised-in a.n (λ v. get_or a.x.now v 0) a.w c.if-n-w.true)

pub returns-else-n-w : goal.returns-else-n-w
returns-else-n-w c = let a = c.args in sym (raised-out a.n (λ v. get_or a.x.now v 0) a.w (omega arith))

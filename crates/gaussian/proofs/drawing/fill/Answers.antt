-- `gaussian::drawing::fill` meets its contract.
use mathlib.Core.Path.{ap, ◌∙◌}
use native.Mathlib.Omega.{arith}
use lib.ListN.{replicate}
use Rattle.gaussian.proofs.LogLaws.{no-logarithms}
use Rattle.gaussian.proofs.TermLaws.{sum-start, sum_more, sum_done}
use Rattle.gaussian.proofs.drawing.fill.Goals as goal

pub new-logs-requires : goal.new-logs-requires
new-logs-requires c = no-logarithms _ _

pub loop-w-init : goal.loop-w-init
loop-w-init c =
    let size = c.requires.1.size in
    (sum-start _ _ (c.fill.ensures.after (λ y e. e) ∙ ap (λ n. replicate n 0) size), omega (arith, size))

pub loop-w-preserved : goal.loop-w-preserved
loop-w-preserved c =
    let p = c.new-modulus in (
      sum_more _ _ _ c.loop-w.invariant.0 (rw (c.new-logs.ensures, p.result.made, p.ensures.0, p.ensures.1) at c.add_term.ensures),
      omega (arith, c.loop-w.invariant.1),
    )

pub returns : goal.returns
returns c =
    let p = c.new-modulus in
    sum_done _ _ _ c.loop-w.invariant.0 (omega (arith, rw (p.ensures.0, p.ensures.1) at p.result.made))

-- `turns::rolled_limbs` meets its contract.
use mathlib.Core.Path.{sym, ap, ◌∙◌}
use native.Mathlib.Nat.{mod-lt}
use Rattle.limbs.specs.Limbs.{carried_limbs, limb_coord, pack_limbs}
use Rattle.limbs.proofs.LimbLoops.{limbs-fit}
use Rattle.turns.specs.Moves.{both_moves}
use Rattle.turns.proofs.Turns.{same-limbs, rolled-wide, rolled-none, rolled-both}
use borrow.Author.Rules.{rules}
use Rattle.turns.proofs.rolled_limbs.Goals as goal
use Rattle.turns.proofs.rolled_limbs.Goals.{else-m-gt0-via-then-m-gt0+else-m-le-MAX_WIDTH, else-m-gt0-via-else-m-gt0}

pub both_moves-requires : goal.both_moves-requires
both_moves-requires c = (c.if-m-le-MAX_WIDTH.true, rw c.within.ensures (mod-lt _ c.if-m-gt0.true))

pub returns-then-m-le-MAX_WIDTH : goal.returns-then-m-le-MAX_WIDTH
returns-then-m-le-MAX_WIDTH c =
    let a = c.args in
    c.both_moves.ensures
    ∙ ap (pack_limbs carried_limbs) (ap (λ k. both_moves a.m k (limb_coord a.x)) c.within.ensures
    ∙ sym (rolled-both c.if-m-le-MAX_WIDTH.true c.if-m-gt0.true a.k _))

pub returns : goal.returns
returns c = same-limbs _ (search rules) (limbs-fit c.args.x (λ k. search rules)) (elim c.else-m-gt0.branch [
  | else-m-gt0-via-then-m-gt0+else-m-le-MAX_WIDTH w ↦ rolled-wide _ _ w.if-m-le-MAX_WIDTH.false
  | else-m-gt0-via-else-m-gt0 w ↦ rolled-none _ _ w.if-m-gt0.false
])

-- `card::reading::Reader::places` meets its contract.
use mathlib.Core.Path.{◌≡◌, sym}
use Prim.Native.Nat.{suc, ◌+◌, ◌-◌}
use native.Mathlib.Nat.{sub-zero}
use native.Mathlib.Omega.{arith}
use Rattle.card.proofs.ReadSteps.{bit-value, told-no_row, places-none, places-refused, places-far, places-more, places-done}
use Rattle.card.proofs.reading.Reader.places.Goals as goal
use Rattle.card.proofs.reading.Reader.places.Goals.{After-number}

-- this place is left, and the others
left : (c : After-number) → c.args.count - c.loop.counter ≡ suc (c.args.count - (c.loop.counter + 1))
left c = let w = c.loop-test.true in omega arith

pub loop-init : goal.loop-init
loop-init c = rw (sub-zero, c.requires.1) (places-none _ _ _)

pub returns-in_err-step : goal.returns-in_err-step
returns-in_err-step c =
    told-no_row _ _ c.from_residual.result c.from_residual.ensures.1 (places-refused c.loop.invariant (left (goal.at.returns-in_err-step c).After-number) (sym c.in_err-step.ensures))

pub returns-then-width-free : goal.returns-then-width-free
returns-then-width-free c =
    places-far c.loop.invariant (left (goal.at.returns-then-width-free c).After-number) (sym c.in_ok-step.ensures) c.if-width-free.true

pub loop-preserved : goal.loop-preserved
loop-preserved c =
    rw bit-value (places-more c.loop.invariant c.requires.0 (left (goal.at.loop-preserved c).After-number) (sym c.in_ok-step.ensures) c.if-width-free.false)

pub returns : goal.returns
returns c = places-done c.loop.invariant (omega arith)

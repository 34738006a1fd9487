-- The limbs that a width is worked on in: where a loop over them ends, and what is kept of coordinates.
use mathlib.Core.Path.{◌≡◌, sym, ap, ◌∙◌}
use mathlib.Core.Bool.{true, false, ◌&&◌, true≢false}
use mathlib.Core.List.{List}
use Prim.Native.Nat.{ℕ, ◌+◌, ◌*◌, ◌<◌, ◌≤◌}
use native.Mathlib.Nat.{zero-div}
use native.Mathlib.Decide.{dec_lt, ℕ_discrete}
use native.Mathlib.Omega.{arith}
use lib.Dec.{eqb, ltb, leb}
use borrow.Author.Tests.{ltb-true, leb-true, eqb-true, lt-ltb, le-ltb, eq-eqb}
use lib.ListN.{replicate}
use Rattle.gf2.specs.Operands.{choose, below}
use Rattle.gf2.proofs.Coordinates.{value-eq, tabulate-ext}
use Rattle.gf2.proofs.Operands.{below_in, below_out}
use Rattle.gf2.proofs.Loops.{Filled, filled-reach}
use Rattle.gf2.proofs.Parity.{and_both}
use Rattle.limbs.specs.Limbs.{carried_limbs, few, reach, ends_at, pack_limbs}
use Rattle.limbs.proofs.LimbLoops.{limb_for, limb-for}

pub reach_few : (m : ℕ) → m < 64 * few → reach m ≡ few
reach_few m h = ap (λ b. choose b few carried_limbs) (lt-ltb m (64 * few) h)

pub reach-all : (m : ℕ) → 64 * few ≤ m → reach m ≡ carried_limbs
reach-all m h = ap (λ b. choose b few carried_limbs) (le-ltb m (64 * few) h)

pub reach-most : (m : ℕ) → reach m ≤ carried_limbs
reach-most m = elim (dec_lt m (64 * few)) [
  | yes h ↦ omega (arith, reach_few m h)
  | no h ↦ omega (arith, reach-all m (omega arith))
]

pub reach-least : (m : ℕ) → few ≤ reach m
reach-least m = elim (dec_lt m (64 * few)) [
  | yes h ↦ omega (arith, reach_few m h)
  | no h ↦ omega (arith, reach-all m (omega arith))
]

-- they have room for the width
pub reach-room : (m : ℕ) → m < 64 * carried_limbs → m < 64 * reach m
reach-room m l = elim (dec_lt m (64 * few)) [
  | yes h ↦ omega (arith, reach_few m h)
  | no h ↦ omega (arith, reach-all m (omega arith))
]

-- where a loop ends, and where it goes on
pub ends-true : (w m : ℕ) → ends_at w m ≡ true → w ≡ reach m
unfolding ends_at
ends-true w m e =
    let both = and_both (eqb w few) (ltb m (64 * few)) e in
    eqb-true w few both.0 ∙ sym (reach_few m (ltb-true m (64 * few) both.1))

-- what ends at w has no coordinate from there on
pub ends-narrow : (w m : ℕ) → ends_at w m ≡ true → m < 64 * w
unfolding ends_at
ends-narrow w m e =
    let both = and_both (eqb w few) (ltb m (64 * few)) e in
    omega (arith, eqb-true w few both.0, ltb-true m (64 * few) both.1)

pub after-narrow : (w n : ℕ) → (eqb w few && leb n (8 * few)) ≡ true → n ≤ 8 * w
after-narrow w n e =
    let both = and_both (eqb w few) (leb n (8 * few)) e in
    omega (arith, eqb-true w few both.0, leb-true n (8 * few) both.1)

pub ends-false : (w m : ℕ) → w ≤ reach m → w < carried_limbs → ends_at w m ≡ false → w < reach m
unfolding ends_at
ends-false w m h l e = elim (dec_lt m (64 * few)) [
  | yes q ↦ elim (ℕ_discrete w few) [
    | yes p ↦ absurd (true≢false (sym (ap (λ b. b && ltb m (64 * few)) (eq-eqb w few p) ∙ lt-ltb m (64 * few) q) ∙ e))
    | no p ↦ omega (arith, reach_few m q)
  ]
  | no q ↦ omega (arith, reach-all m (omega arith))
]

-- the first n limbs of N, where a loop over zeros has filled them
pub kept-limbs : (N n : ℕ) (c : ℕ → ℕ) {l : List ℕ} {b : ℕ} → Filled n (limb_for c) (replicate N 0) l b → n ≤ b → n ≤ N → l ≡ pack_limbs N (below (64 * n) c)
unfolding pack_limbs
kept-limbs N n c done h fits = filled-reach N done h fits ∙ tabulate-ext N _ _ (λ w l. elim (dec_lt w n) [
  | yes q ↦ below_in n (limb_for c) w q ∙ limb-for (below (64 * n) c) w _ (λ j k. sym (below_in (64 * n) c (w * 64 + j) (omega arith)))
  | no q ↦ below_out n (limb_for c) w (omega arith) ∙ value-eq 64 _ 0 (omega arith) (λ j k. rw (zero-div, below_out (64 * n) c (w * 64 + j) (omega arith)))
])

-- A turn made of two moves of limbs: by steps of 1, 2, 4, .. limbs, then by the bits of two limbs in a row; and what the two moves, added, are.
-- Loops over the limbs that a width is worked on in. Moves of whole limbs, of bits, and their sum. The turn, in bytes and in limbs.
use mathlib.Core.Path.{◌≡◌, refl, sym, ap, ap₂, fun_ext, ◌∙◌}
use mathlib.Core.Bool.{Bool, true, false, not}
use mathlib.Core.List.{List, [], ◌∷◌}
use Prim.Native.Nat.{ℕ, ◌+◌, ◌-◌, ◌*◌, ◌/◌, ◌%◌, ◌^◌, ◌<◌, ◌≤◌}
use native.Mathlib.Nat.{add-zero, mod-one, mod-lt, mod-eq_of_lt, mod-mod, mod-le, zero-div, lt_of_le_of_lt}
use native.Mathlib.Decide.{dec_lt, ℕ_discrete}
use native.Mathlib.Omega.{arith}
use lib.Arith.{mod-mul}
use lib.Bits.{bit_xor, xor_lt}
use lib.Dec.{eqb}
use lib.ListN.{length, set, replicate, length-replicate, get_or-eq_default}
use borrow.Author.Tests.{le-leb, lt-leb, lt-ltb, le-ltb, eq-eqb, ne_eqb}
use Rattle.gf2.specs.Coordinates.{coord, value, tabulate, pack}
use Rattle.gf2.specs.Operands.{max_width, carried_bytes, minus, choose, below, from_coords, turned}
use Rattle.gf2.proofs.Coordinates.{value-ext, value-eq, length-tabulate, get_d_tabulate, tabulate-ext, coord-pack, mod-bit, mod-bit-out, xor-bit}
use Rattle.gf2.proofs.Loops.{Filled, filled_more, filled-reach}
use Rattle.gf2.proofs.Operands.{below_in, below_out, from-ext, minus-below, minus-round, minus-modulo}
use Rattle.limbs.specs.Limbs.{carried_limbs, reach, ends_at, limb_coord, pack_limbs, limbs_of, raised}
use Rattle.limbs.proofs.Reach.{reach-most, reach-least, reach-room, ends-true, ends-false}
use Rattle.limbs.proofs.LimbCoords.{limb-lt, limb-digit, limb-pack, limbs-of, limbs-ext, limbs-eq, limbs-below}
use Rattle.limbs.proofs.LimbLoops.{Limbs, pair-low, pair-high}
use Rattle.limbs.proofs.RaisedLimbs.{raised-in, raised-out, raised-same, limb_of, pair_from, raised-coord}
use Rattle.turns.specs.Moves.{kept, moved, pair_at, both_moves, rolled}

-- a loop over the limbs that a width is worked on in: one limb more, and the two ends
module _ (m : ℕ) {f : ℕ → ℕ} {l : List ℕ} {w : ℕ} (done : Filled (reach m) f (replicate carried_limbs 0) l w) where
  pub limbs-more : {x : ℕ} {b : Bool} → w < carried_limbs → b ≡ ends_at w m → b ≡ false → x ≡ f w → Filled (reach m) f (replicate carried_limbs 0) (set l w x) (w + 1)
  limbs-more h e q p =
      filled_more done (ends-false w m done.within h (sym e ∙ q)) (omega (arith, reach-most m, length-replicate {A = ℕ} carried_limbs 0)) p

  pub limbs-ended : {b : Bool} → b ≡ ends_at w m → b ≡ true → l ≡ tabulate carried_limbs (below (reach m) f)
  limbs-ended e q = filled-reach carried_limbs done (omega (arith, ends-true w m (sym e ∙ q))) (reach-most m)

  pub limbs-all : carried_limbs ≤ w → l ≡ tabulate carried_limbs (below (reach m) f)
  limbs-all h = filled-reach carried_limbs done (omega (arith, reach-most m)) (reach-most m)

-- lists of limbs that are 0 from r on
cut-ext : (r : ℕ) (f g : ℕ → ℕ) → ((w : ℕ) → w < r → f w ≡ g w) → tabulate carried_limbs (below r f) ≡ tabulate carried_limbs (below r g)
cut-ext r f g e = tabulate-ext carried_limbs _ _ (λ w h. elim (dec_lt w r) [
  | yes q ↦ below_in r f w q ∙ e w q ∙ sym (below_in r g w q)
  | no q ↦ below_out r f w (omega arith) ∙ sym (below_out r g w (omega arith))
])

cut-limb : (r : ℕ) (f : ℕ → ℕ) {l : List ℕ} → l ≡ tabulate carried_limbs (below r f) → r ≤ carried_limbs → (w : ℕ) → limb_of l w ≡ below r f w
cut-limb r f e fits w = ap (λ s. limb_of s w) e ∙ elim (dec_lt w carried_limbs) [
  | yes q ↦ get_d_tabulate carried_limbs (below r f) w q
  | no q ↦
      get_or-eq_default (tabulate carried_limbs (below r f)) 0 {n = w} (omega (arith, length-tabulate carried_limbs (below r f)))
      ∙ sym (below_out r f w (omega arith))
]

cut_digit : (r : ℕ) (x : List ℕ) (w j : ℕ) → j < 64 → below r (limb_of x) w / 2 ^ j % 2 ≡ below (64 * r) (limb_coord x) (w * 64 + j)
cut_digit r x w j l = elim (dec_lt w r) [
  | yes q ↦ ap (λ y. y / 2 ^ j % 2) (below_in r (limb_of x) w q) ∙ sym (below_in (64 * r) (limb_coord x) (w * 64 + j) (omega arith) ∙ limb-digit x w j l)
  | no q ↦ rw (below_out r (limb_of x) w (omega arith), below_out (64 * r) (limb_coord x) (w * 64 + j) (omega arith), zero-div)
]

cut-pack : (r : ℕ) (f : ℕ → ℕ) → tabulate carried_limbs (below r (λ w. value 64 (λ j. f (w * 64 + j)))) ≡ pack_limbs carried_limbs (below (64 * r) f)
unfolding pack_limbs
cut-pack r f = tabulate-ext carried_limbs _ _ (λ w h. elim (dec_lt w r) [
  | yes q ↦ below_in r _ w q ∙ value-ext 64 _ _ (λ j l. ap (λ y. y % 2) (sym (below_in (64 * r) f (w * 64 + j) (omega arith))))
  | no q ↦ below_out r _ w (omega arith) ∙ value-eq 64 _ 0 (omega arith) (λ j l. rw (zero-div, below_out (64 * r) f (w * 64 + j) (omega arith)))
])

-- f moved n down, where it is 0 from r on
abbrev lowered : ℕ → ℕ → (ℕ → ℕ) → ℕ → ℕ
lowered r n f i = below r f (i + n)

-- a way to move limbs by a count, as far as limb r: by 0 nothing moves, and two moves are one by the sum
pub record Moves (r : ℕ) (by : ℕ → (ℕ → ℕ) → ℕ → ℕ) : Type 0 where
  pub none : (f : ℕ → ℕ) (w : ℕ) → w < r → by 0 f w ≡ f w
  pub twice : (f g : ℕ → ℕ) (j k : ℕ) → ((w : ℕ) → w < r → g w ≡ by j f w) → (w : ℕ) → w < r → by k g w ≡ by (j + k) f w

moves-down : (r : ℕ) → Moves r (lowered r)
moves-down r = record {
  none = λ f w h. ap (below r f) (add-zero w) ∙ below_in r f w h;
  twice = λ f g j k e w h. elim (dec_lt (w + k) r) [
    | yes q ↦ below_in r g (w + k) q ∙ e (w + k) q ∙ ap (below r f) (omega arith)
    | no q ↦ below_out r g (w + k) (omega arith) ∙ sym (below_out r f (w + (j + k)) (omega arith))
  ];
}

moves-up : (r : ℕ) → Moves r raised
moves-up r = record {
  none = λ f w h. let d : w - 0 ≡ w = omega arith in raised-in 0 f w (omega arith) ∙ ap f d;
  twice = λ f g j k e w h. elim (dec_lt w k) [
    | yes q ↦ raised-out k g w q ∙ sym (raised-out (j + k) f w (omega arith))
    | no q ↦ raised-in k g w (omega arith) ∙ e (w - k) (omega arith) ∙ raised-same f j (w - k) (j + k) w (omega arith)
  ];
}

-- the way that a const parameter names
abbrev pub is_up : ℕ → Bool
is_up n = not (eqb n 0)

pub moves : (up : Bool) (r : ℕ) → Moves r (moved up r)
moves true r = moves-up r
moves false r = moves-down r

-- the loop that moves limbs by steps: those below `step` are made; what was given may have limbs from r on, what a step made has none
pub record Moved (r : ℕ) (by : ℕ → (ℕ → ℕ) → ℕ → ℕ) (x : List ℕ) (count : ℕ) (l : List ℕ) (step : ℕ) : Type 0 where
  pub some : 0 < step
  pub content : (w : ℕ) → w < r → limb_of l w ≡ by (count % step) (limb_of x) w
  pub form : 1 < step → l ≡ tabulate carried_limbs (below r (limb_of l))

module _ (m : ℕ) {by : ℕ → (ℕ → ℕ) → ℕ → ℕ} (moves : Moves (reach m) by) {x : List ℕ} {count : ℕ} where
  pub moved_none : Moved (reach m) by x count x 1
  moved_none = record {
    some = omega arith;
    content = λ w h. sym (ap (λ k. by k (limb_of x) w) (mod-one count) ∙ moves.none (limb_of x) w h);
    form = λ h. absurd (omega arith);
  }

  pub moved_more : {l : List ℕ} {step : ℕ} {next : List ℕ} → Moved (reach m) by x count l step
      → next ≡ tabulate carried_limbs (below (reach m) (λ w. choose (eqb (count / step % 2) 1) (by step (limb_of l) w) (limb_of l w))) → Moved (reach m) by x count next (2 * step)
  moved_more {l} {step} {next} done e = record {
    some = omega (arith, done.some);
    content = λ w h. at w h ∙ elim (ℕ_discrete (count / step % 2) 1) [
      | yes q ↦
          let d : count % step + step ≡ count % (2 * step) = omega (arith, digits, ap (λ k. k * step) q) in
          ap (λ t. choose t (by step (limb_of l) w) (limb_of l w)) (eq-eqb _ 1 q)
          ∙ moves.twice (limb_of x) (limb_of l) (count % step) step done.content w h ∙ ap (λ k. by k (limb_of x) w) d
      | no q ↦
          let z : count / step % 2 ≡ 0 = omega arith in
          let d : count % step ≡ count % (2 * step) = omega (arith, digits, ap (λ k. k * step) z) in
          ap (λ t. choose t (by step (limb_of l) w) (limb_of l w)) (ne_eqb _ 1 q) ∙ done.content w h ∙ ap (λ k. by k (limb_of x) w) d
    ];
    form = λ h. e ∙ cut-ext (reach m) _ (limb_of next) (λ w q. sym (at w q));
  }
    where
      digits : count % (2 * step) ≡ count / step % 2 * step + count % step
      digits = mod-mul count (omega arith) done.some

      at : (w : ℕ) → w < reach m → limb_of next w ≡ choose (eqb (count / step % 2) 1) (by step (limb_of l) w) (limb_of l w)
      at w h = ap (λ s. limb_of s w) e ∙ get_d_tabulate carried_limbs _ w (omega (arith, reach-most m)) ∙ below_in (reach m) _ w h

  pub moved_all : {l : List ℕ} {step : ℕ} → Moved (reach m) by x count l step → reach m ≤ step → count < reach m
      → l ≡ tabulate carried_limbs (below (reach m) (by count (limb_of x)))
  moved_all {l} {step} done h less =
      let l' : count < step = omega arith in
      done.form (omega (arith, reach-least m)) ∙ cut-ext (reach m) _ _ (λ w q. done.content w q ∙ ap (λ k. by k (limb_of x) w) (mod-eq_of_lt l'))

-- the limbs moved by k / 64, two in a row taken from the bit where k falls
module _ (m k : ℕ) (x : List ℕ) where
  -- two limbs in a row, k / 64 above limb w
  lowered-coord : (w j : ℕ) → j < 64
      → limb_coord (lowered (reach m) (k / 64) (limb_of x) w ∷ lowered (reach m) (k / 64 + 1) (limb_of x) w ∷ []) (k % 64 + j) ≡ kept m (limb_coord x) (w * 64 + j + k)
  lowered-coord w j l = elim (dec_lt (k % 64 + j) 64) [
    | yes q ↦ pair-low _ _ (k % 64 + j) q ∙ cut_digit (reach m) x (w + k / 64) (k % 64 + j) q ∙ ap (kept m (limb_coord x)) (omega arith)
    | no q ↦
        pair-high _ _ (k % 64 + j) (omega arith) (omega arith) ∙ cut_digit (reach m) x (w + (k / 64 + 1)) (k % 64 + j - 64) (omega arith)
        ∙ ap (kept m (limb_coord x)) (omega arith)
  ]

  lower-bits : {moved : List ℕ} → moved ≡ tabulate carried_limbs (below (reach m) (lowered (reach m) (k / 64) (limb_of x)))
      → tabulate carried_limbs (below (reach m) (λ w. pair_from (k % 64) (limb_of moved w) (limb_of moved (w + 1))))
      ≡ pack_limbs carried_limbs (below (64 * reach m) (λ i. kept m (limb_coord x) (i + k)))
  lower-bits {moved} e =
      cut-ext (reach m) _ _ (λ w h. ap₂ (pair_from (k % 64)) (at w ∙ below_in (reach m) _ w h) (at (w + 1) ∙ (moves-down (reach m)).twice (limb_of x) _ (k / 64) 1 (λ v q. refl) w h)
      ∙ value-ext 64 _ _ (λ j l. ap (λ y. y % 2) (lowered-coord w j l)))
      ∙ cut-pack (reach m) (λ i. kept m (limb_coord x) (i + k))
    where
      at : (w : ℕ) → limb_of moved w ≡ below (reach m) (lowered (reach m) (k / 64) (limb_of x)) w
      at = cut-limb (reach m) _ e (reach-most m)

  raise-bits : {moved : List ℕ} → moved ≡ tabulate carried_limbs (below (reach m) (raised (k / 64) (limb_of x)))
      → tabulate carried_limbs (below (reach m) (λ w. pair_from (64 - k % 64) (raised 1 (limb_of moved) w) (limb_of moved w)))
      ≡ pack_limbs carried_limbs (below (64 * reach m) (raised k (limb_coord x)))
  raise-bits {moved} e =
      cut-ext (reach m) _ _ (λ w h. ap₂ (pair_from (64 - k % 64)) ((moves-up (reach m)).twice (limb_of x) (limb_of moved) (k / 64) 1 at w h) (at w h)
      ∙ value-ext 64 _ _ (λ j l. ap (λ y. y % 2) (raised-coord carried_limbs k x w j l)))
      ∙ cut-pack (reach m) (raised k (limb_coord x))
    where
      at : (w : ℕ) → w < reach m → limb_of moved w ≡ raised (k / 64) (limb_of x) w
      at w h = cut-limb (reach m) _ e (reach-most m) w ∙ below_in (reach m) _ w h

  pub moved-bits : (up : Bool) {whole : List ℕ} → whole ≡ tabulate carried_limbs (below (reach m) (moved up (reach m) (k / 64) (limb_of x)))
      → tabulate carried_limbs (below (reach m) (pair_at up k (limb_of whole))) ≡ pack_limbs carried_limbs (below (64 * reach m) (moved up (64 * reach m) k (limb_coord x)))
  moved-bits true e = raise-bits e
  moved-bits false e = lower-bits e

-- limbs added, each with its coordinates below m
pub merged-limbs : (n m : ℕ) (x y : List ℕ) → Limbs x → Limbs y
    → tabulate n (λ w. bit_xor (limb_of x w) (limb_of y w) % 2 ^ (m - w * 64)) ≡ pack_limbs n (below m (λ i. limb_coord x i + limb_coord y i))
merged-limbs n m x y sx sy = limbs-of n _ (below m (λ i. limb_coord x i + limb_coord y i)) (λ w h. lt_of_le_of_lt (mod-le _ (2 ^ (m - w * 64))) (xor_lt 64 (limb_of x w) (limb_of y w) (sx w) (sy w))) (λ w j h l. elim (dec_lt (w * 64 + j) m) [
  | yes q ↦
      rw (below_in m (λ i. limb_coord x i + limb_coord y i) (w * 64 + j) q, limb-digit x w j l, limb-digit y w j l, mod-bit (bit_xor (limb_of x w) (limb_of y w)) (m - w * 64) j (omega arith))
      (xor-bit (limb_of x w) (limb_of y w) j)
  | no q ↦ rw (below_out m (λ i. limb_coord x i + limb_coord y i) (w * 64 + j) (omega arith), mod-bit-out (bit_xor (limb_of x w) (limb_of y w)) (m - w * 64) j (omega arith))
])

raised-kept : (m k : ℕ) (f : ℕ → ℕ) (i : ℕ) → i < 64 * reach m → raised k f i ≡ raised k (kept m f) i
raised-kept m k f i h = elim (dec_lt i k) [
  | yes q ↦ raised-out k f i q ∙ sym (raised-out k (kept m f) i q)
  | no q ↦ raised-in k f i (omega arith) ∙ sym (raised-in k (kept m f) i (omega arith) ∙ below_in (64 * reach m) f (i - k) (omega arith))
]

parts : {u v : ℕ} (x y : ℕ) → u ≡ x % 2 → v ≡ y % 2 → (u + v) % 2 ≡ (x + y) % 2
parts x y p q = omega arith

-- the limbs of x moved up and down, added, with the coordinates below m kept
pub both-limbs : (m k : ℕ) (x : List ℕ) {up down r : List ℕ} → m ≤ max_width → up ≡ pack_limbs carried_limbs (below (64 * reach m) (raised k (limb_coord x)))
    → down ≡ pack_limbs carried_limbs (below (64 * reach m) (λ i. kept m (limb_coord x) (i + (m - k))))
    → r ≡ pack_limbs carried_limbs (below m (λ i. limb_coord up i + limb_coord down i)) → r ≡ pack_limbs carried_limbs (both_moves m k (limb_coord x))
unfolding both_moves
both-limbs m k x {up} {down} fits eu ed er = er ∙ limbs-below carried_limbs m _ _ (λ i h.
    parts (raised k (kept m (limb_coord x)) i) (kept m (limb_coord x) (i + (m - k))) (at _ eu i h ∙ ap (λ y. y % 2) (raised-kept m k (limb_coord x) i (omega (arith, room)))) (at _ ed i h))
  where
    room : m < 64 * reach m
    room = reach-room m (omega arith)

    at : (f : ℕ → ℕ) {l : List ℕ} → l ≡ pack_limbs carried_limbs (below (64 * reach m) f) → (i : ℕ) → i < m → limb_coord l i ≡ f i % 2
    at f e i h = ap (λ s. limb_coord s i) e ∙ limb-pack carried_limbs _ i (omega arith) ∙ ap (λ y. y % 2) (below_in (64 * reach m) f i (omega (arith, room)))

-- limbs are those of their coordinates
pub same-limbs : {x : List ℕ} (f : ℕ → ℕ) → length x ≡ carried_limbs → Limbs x → f ≡ limb_coord x → x ≡ pack_limbs carried_limbs f
same-limbs {x} f size small e = limbs-eq carried_limbs f size small (λ i h. sym (ap (λ g. g i % 2) e ∙ mod-eq_of_lt (limb-lt x i)))

pub rolled-wide : {m : ℕ} (k : ℕ) (f : ℕ → ℕ) → max_width < m → rolled m k f ≡ f
unfolding rolled
rolled-wide {m} k f wide = rw (lt-leb m max_width wide)

pub rolled-none : {m : ℕ} (k : ℕ) (f : ℕ → ℕ) → m ≤ 0 → rolled m k f ≡ f
unfolding rolled
rolled-none {m} k f none = rw (le-leb m max_width (omega arith), le-ltb 0 m none)

module _ {m : ℕ} (fits : m ≤ max_width) (some : 0 < m) (k : ℕ) where
  pub rolled-both : (f : ℕ → ℕ) → rolled m k f ≡ both_moves m (k % m) f
  unfolding rolled
  rolled-both f = rw (le-leb m max_width fits, lt-ltb 0 m some)

  module _ (x : List ℕ) (size : length x ≡ carried_bytes) (clear : (i : ℕ) → m ≤ i → coord x i ≡ 0) where
    kept-all : kept m (coord x) ≡ coord x
    kept-all = fun_ext (λ i. elim (dec_lt i (64 * reach m)) [
      | yes h ↦ below_in (64 * reach m) (coord x) i h
      | no h ↦ below_out (64 * reach m) (coord x) i (omega arith) ∙ sym (clear i (omega (arith, reach-room m (omega arith))))
    ])

    -- of the two moved operands, one has the coordinate that comes to place i and the other has 0 there
    shifted : (j i : ℕ) → j < m → i < m → raised j (coord x) i + coord x (i + (m - j)) ≡ coord x (minus m i j)
    shifted j i less l = elim (dec_lt i j) [
      | yes h ↦ rw (raised-out j (coord x) i h, minus-round m i j h less) (omega arith)
      | no h ↦ rw (raised-in j (coord x) i (omega arith), clear (i + (m - j)) (omega arith), minus-below m i j (omega arith) l) (omega arith)
    ]

    pub rolled-turned : pack carried_bytes (rolled m k (coord x)) ≡ turned m k x
    unfolding both_moves turned from_coords
    rolled-turned =
        ap (pack carried_bytes) (rolled-both (coord x))
        ∙ from-ext carried_bytes m _ _ (λ i l.
        ap (λ y. y % 2) (ap (λ f. raised (k % m) f i + f (i + (m - k % m))) kept-all ∙ shifted (k % m) i (mod-lt k some) l ∙ ap (coord x) (sym (minus-modulo m i k))))
        ∙ ap (λ s. from_coords s m (λ i. coord x (minus m i k))) (sym size)

    -- the same in limbs
    pub rolled-limbs : (l : List ℕ) → limb_coord l ≡ coord x → pack_limbs carried_limbs (rolled m k (limb_coord l)) ≡ limbs_of (turned m k x)
    rolled-limbs l e = ap (λ f. pack_limbs carried_limbs (rolled m k f)) e ∙ limbs-ext carried_limbs _ _ (λ i h.
        sym (ap (λ y. y % 2) (sym (ap (λ a. coord a i) rolled-turned) ∙ coord-pack carried_bytes (rolled m k (coord x)) i (omega arith)) ∙ mod-mod _ 2))

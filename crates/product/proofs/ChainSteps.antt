-- The steps of the inverse's chain: the binary digits of m - 1, and what a doubling and an adding hand on.
use Rattle.std.specs.Prelude.{Result, Ok}
use mathlib.Core.Path.{◌≡◌, refl, sym, ap, ◌∙◌}
use mathlib.Core.List.{List}
use Prim.Native.Nat.{ℕ, zero, suc, ◌+◌, ◌-◌, ◌*◌, ◌/◌, ◌%◌, ◌^◌, ◌<◌, ◌≤◌}
use native.Mathlib.Nat.{pow-suc, div-div-eq-div-mul, le_trans}
use native.Mathlib.Decide.{dec_lt}
use native.Mathlib.Omega.{arith}
use lib.ListN.{length}
use lib.Dec.{lit≤}
use lib.Pow.{pow_mono, shr_le}
use Rattle.gf2.specs.Operands.{carried_bytes, max_width, IsOperand, turned}
use Rattle.gf2.specs.Products.{product}
use Rattle.gf2.specs.Inverse.{log2, Chain, start, doubling, adding, digits, chain, inverse, products_made}
use Rattle.gf2.proofs.Operands.{length_from, from-operand}
use Rattle.gf2.proofs.Logarithm.{log2-bounds, top_digit}
use Rattle.operand.specs.declared.Operand.{Operand}
use Rattle.judging.specs.declared.fault.Fault.{Fault}
use Rattle.operand.specs.Calls.{turn_call}
use Rattle.table.specs.Rows.{Shaped}
use Rattle.product.specs.declared.chain.State.{State}
use Rattle.product.specs.Inner.{Sound, operand_of, chain_of, state_of, Underway}
use Rattle.product.proofs.SoundOperands.{is_carried, made-sound, unwrapped, turn-is, turn-made}

-- a small number has few digits, so that a shift by their number is no overflow
pub few-digits : (u k : ℕ) → max_width < 2 ^ k → 2 ^ u ≤ max_width → u < k
few-digits u k big h = elim (dec_lt u k) [
  | yes q ↦ q
  | no q ↦ absurd (omega (arith, pow_mono {i = k} {j = u} (omega arith)))
]

-- so that two products for each of them are few
twice_most : (u : ℕ) → 2 * u ≤ 2 ^ u
twice_most zero = omega arith
twice_most (suc zero) = lit≤ tt
twice_most (suc (suc u)) = omega (arith, twice_most (suc u), pow-suc 2 (suc u))

-- the digits read so far, with one more
read_more : (n u : ℕ) → 0 < u → 2 * (n / 2 ^ u) + n / 2 ^ (u - 1) % 2 ≡ n / 2 ^ (u - 1)
read_more n zero h = absurd (omega arith)
read_more n (suc u) h =
    let q : suc u - 1 ≡ u = omega arith in
    let e : n / 2 ^ suc u ≡ n / 2 ^ u / 2 = rw (pow-suc, ← div-div-eq-div-mul) in
    rw (q, e) (omega arith)

digits-next : (m : ℕ) (t a : List ℕ) (n u : ℕ) (s : Chain) → 0 < u → digits m t a n u s ≡ digits m t a n (u - 1) (adding m t a (n / 2 ^ (u - 1) % 2) (doubling m t s))
unfolding digits
digits-next m t a n zero s h = absurd (omega arith)
digits-next m t a n (suc u) s h = let q : suc u - 1 ≡ u = omega arith in rw q

-- a product of carried operands is one, and so is every power of the chain
product-operand : (m : ℕ) (t x y : List ℕ) → length x ≡ carried_bytes → IsOperand carried_bytes m (product m t x y)
unfolding product
product-operand m t x y size = rw size (from-operand carried_bytes m _)

turned-length : (m k : ℕ) (x : List ℕ) → length (turned m k x) ≡ length x
unfolding turned
turned-length m k x = length_from (length x) m _

module _ (m : ℕ) (t a : List ℕ) where
  abbrev Fine : Chain → Type 0
  Fine s = IsOperand carried_bytes m s.t

  adding-fine : (d : ℕ) (s : Chain) → Fine s → Fine (adding m t a d s)
  unfolding adding
  adding-fine zero s h = h
  adding-fine (suc d) s h = product-operand m t _ _ (turned-length m 1 s.t ∙ h.size)

  digits-fine : (n u : ℕ) (s : Chain) → Fine s → Fine (digits m t a n u s)
  unfolding digits doubling
  digits-fine n zero s h = h
  digits-fine n (suc u) s h = digits-fine n u _ (adding-fine _ _ (product-operand m t _ _ (turned-length m s.k s.t ∙ h.size)))

-- x turned k places, and what it gives as a factor
module _ {m : ℕ} {x : Operand} (s : Sound m x) (k : ℕ) {r : Result Operand Fault} {v : Operand} (e : r ≡ turn_call x k) (u : r ≡ Ok v) where
  pub turned-sound : Sound m v
  turned-sound = made-sound s _ (unwrapped e (turn-made s k) u)

  pub turned-times : (t y : List ℕ) {p : Operand} → p ≡ operand_of m (product m t v.bytes y) → p ≡ operand_of m (product m t (turned m k x.bytes) y)
  turned-times t y q = q ∙ ap (λ (o : Operand). operand_of m (product m t o.bytes y)) (unwrapped e (turn-is s k) u)

-- the last state of the chain, reached from s with u digits unread
abbrev last_from : ℕ → List ℕ → Operand → ℕ → Chain → State
last_from m t a u s = state_of m (digits m t a.bytes (m - 1) u s)

module _ {m : ℕ} {t : List ℕ} {a : Operand} {s : State} {u d : ℕ} (w : Underway m t a s u d) where
  pub k-small : s.k < max_width
  k-small = omega (arith, w.reached, w.base.least, w.base.greatest, shr_le (m - 1) u)

  pub none_left : u ≡ 0 → s ≡ last_from m t a u (chain_of s)
  unfolding digits
  none_left e = ap (λ o. record { t = o; k = s.k; count = s.count }) (is_carried w.power) ∙ rw e

  -- a digit 0 is added by doing nothing
  pub skipped-underway : d ≡ 0 → Underway m t a s u 0
  skipped-underway e = rw e at w

  pub skipped-last : d ≡ 0 → {z : State} → z ≡ last_from m t a u (chain_of s) → z ≡ last_from m t a u (adding m t a.bytes d (chain_of s))
  unfolding adding
  skipped-last e q = rw e q

  -- the power that a step hands on
  step-sound : (k : ℕ) (y : List ℕ) → Sound m (operand_of m (product m t (turned m k s.t.bytes) y))
  step-sound k y = record {
    least = w.base.least;
    greatest = w.base.greatest;
    width = refl;
    operand = product-operand m t _ y (turned-length m k s.t.bytes ∙ w.power.operand.size);
  }

-- the state that a doubling hands on
module _ {m : ℕ} {t : List ℕ} {a : Operand} {s : State} {u : ℕ} (w : Underway m t a s u 0) (some : 0 < u) {r : State}
    (e : r ≡ record { t = operand_of m (product m t (turned m s.k s.t.bytes) s.t.bytes); k = 2 * s.k; count = s.count + 1 }) where
  pub doubled-underway : Underway m t a r (u - 1) ((m - 1) / 2 ^ (u - 1) % 2)
  doubled-underway = rw e (record {
    shaped = w.shaped;
    base = w.base;
    power = step-sound w s.k s.t.bytes;
    reached = omega (arith, w.reached, read_more (m - 1) u some);
    short = le_trans (pow_mono {i = u - 1} {j = u} (omega arith)) w.short;
    few = omega (arith, w.few);
  })

  pub doubled-last : {z : State} → z ≡ last_from m t a (u - 1) (adding m t a.bytes ((m - 1) / 2 ^ (u - 1) % 2) (chain_of r)) → z ≡ last_from m t a u (chain_of s)
  unfolding doubling
  doubled-last q =
      q
      ∙ ap (λ (x : State). last_from m t a (u - 1) (adding m t a.bytes ((m - 1) / 2 ^ (u - 1) % 2) (chain_of x))) e
      ∙ ap (state_of m) (sym (digits-next m t a.bytes (m - 1) u (chain_of s) some))

-- the state that the adding of a digit 1 hands on
module _ {m : ℕ} {t : List ℕ} {a : Operand} {s : State} {u d : ℕ} (w : Underway m t a s u d) (one : d ≡ 1) {r : State}
    (e : r ≡ record { t = operand_of m (product m t (turned m 1 s.t.bytes) a.bytes); k = s.k + 1; count = s.count + 1 }) where
  pub added-underway : Underway m t a r u 0
  added-underway = rw e (record {
    shaped = w.shaped;
    base = w.base;
    power = step-sound w 1 a.bytes;
    reached = omega (arith, w.reached);
    short = w.short;
    few = omega (arith, w.few);
  })

  pub added-last : {z : State} → z ≡ last_from m t a u (chain_of r) → z ≡ last_from m t a u (adding m t a.bytes d (chain_of s))
  unfolding adding
  added-last q = rw one (q ∙ ap (λ (x : State). last_from m t a u (chain_of x)) e)

-- the chain begins with all digits but the highest one unread
pub start-underway : {m : ℕ} {t : List ℕ} {a : Operand} → Shaped m t → Sound m a → Underway m t a (record { t = a; k = 1; count = 0 }) (log2 (m - 1)) 0
start-underway {m} h s =
    let l = s.least in
    let g = s.greatest in
    let b = log2-bounds (m - 1) (omega arith) in
    let small : 2 ^ log2 (m - 1) ≤ max_width = omega arith in
    record {
      shaped = h;
      base = s;
      power = s;
      reached = sym (top_digit (m - 1) (omega arith));
      short = small;
      few = omega (arith, twice_most (log2 (m - 1)), small);
    }

-- the last state: its power turned by one is the inverse, and its count the number of products
module _ {m : ℕ} (t : List ℕ) {a : Operand} (sa : Sound m a) {s : State} (e : s ≡ state_of m (chain m t a.bytes)) where
  last-sound : Sound m s.t
  last-sound = rw e (record { least = sa.least; greatest = sa.greatest; width = refl; operand = digits-fine m t a.bytes (m - 1) (log2 (m - 1)) (start a.bytes) sa.operand })

  pub last-turns : turn_call s.t 1 ≡ Ok (operand_of m (inverse m t a.bytes))
  unfolding inverse
  last-turns = turn-is last-sound 1 ∙ ap (λ (z : State). Ok (operand_of m (turned m 1 z.t.bytes))) e

  pub last-count : s.count ≡ products_made m t a.bytes
  unfolding products_made
  last-count = ap (λ (z : State). z.count) e

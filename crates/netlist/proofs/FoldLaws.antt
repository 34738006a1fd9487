-- Laws of gates whose wires are earlier: a run gives each wire its gate's value, and a fold gives the sum of its terms modulo 2.
-- Pieces: lengths and elements of lists made piece by piece, and what holds of each element. Wires: bounds. Runs: what a run keeps and sets.
-- Folds: the sum on the last running wire. Counts: gates by kind.
use mathlib.Core.Path.{◌≡◌, refl, sym, ap, ap₂, ◌∙◌}
use mathlib.Core.Bool.{Bool, true, false, true≢false}
use mathlib.Core.List.{List, [], ◌∷◌, ◌++◌}
use Prim.Native.Nat.{ℕ, zero, suc, ◌+◌, ◌-◌, ◌*◌, ◌%◌, ◌<◌, ◌≤◌}
use native.Mathlib.Nat.{add-zero, add-suc, suc-add, mod-lt}
use native.Mathlib.Decide.{ℕ_discrete}
use native.Mathlib.Omega.{arith}
use lib.ListN.{length, get_or, length-append, get_or-append}
use lib.Seq.{get_or-append_seam}
use Rattle.gf2.specs.Sums.{sum}
use Rattle.netlist.specs.Gates.{Gate, AND, XOR, and_gates, xor_gates}
use Rattle.netlist.specs.Lists.{each, only, pairs, before, onto, last_wire, fold, end}
use Rattle.netlist.specs.Running.{gate_value, value_on, run}
use Rattle.gf2.proofs.Counts.{num}

-- Pieces
pub length-each : {A : Type 0} (n : ℕ) (f : ℕ → List A) → length (each n f) ≡ sum n (λ i. length (f i))
unfolding each sum
length-each zero f = refl
length-each (suc n) f = rw (length-append, length-each n f)

pub length-only : {A : Type 0} (b : Bool) (x : A) → length (only b x) ≡ num b
unfolding only
length-only true x = refl
length-only false x = refl

pub length-single : {A : Type 0} (n : ℕ) (f : ℕ → A) → length (each n (λ i. f i ∷ [])) ≡ n
unfolding each
length-single zero f = refl
length-single (suc n) f = rw (length-append, length-single n f) (omega arith)

pub get_or-single : {A : Type 0} (n : ℕ) (f : ℕ → A) (d : A) (r : ℕ) → r < n → get_or (each n (λ i. f i ∷ [])) r d ≡ f r
unfolding each
get_or-single zero f d r h = absurd (omega arith)
get_or-single (suc n) f d r h = elim (ℕ_discrete r n) [
  | yes e ↦ rw e (ap (λ z. get_or (each n (λ i. f i ∷ []) ++ (f n ∷ [])) z d) (sym (length-single n f)) ∙ get_or-append_seam (each n (λ i. f i ∷ [])) (f n) [] d)
  | no ne ↦ get_or-append (each n (λ i. f i ∷ [])) (f n ∷ []) d r (rw (length-single n f) (omega arith)) ∙ get_or-single n f d r (omega arith)
]

module _ {A : Type 0} (m : ℕ) (test : ℕ → ℕ → Bool) (f : ℕ → ℕ → A) where
  -- the pairs of row i up to j, and those of the rows before i
  abbrev pub cells : ℕ → ℕ → List A
  cells i j = each j (λ j. only (test i j) (f i j))

  abbrev pub rows : ℕ → List A
  rows i = each i (λ i. cells i m)

  length-cells : (i j : ℕ) → length (cells i j) ≡ sum j (λ j. num (test i j))
  length-cells i j = simp (length-each, length-only)

  length-rows : (i : ℕ) → length (rows i) ≡ sum i (λ i. sum m (λ j. num (test i j)))
  length-rows i = simp (length-each, length-only)

  pub length_pairs : length (pairs m test f) ≡ sum m (λ i. sum m (λ j. num (test i j)))
  unfolding pairs
  length_pairs = length-rows m

  pub length_before : (i j : ℕ) → length (rows i) + length (cells i j) ≡ before m test i j
  unfolding before
  length_before i j = ap₂ ◌+◌ (length-rows i) (length-cells i j)

-- what holds of each element
unfoldable pub All : {A : Type 0} → (A → Type 0) → List A → Type 0
All P [] = Unit {0}
All P (x ∷ xs) = P x × All P xs

module _ {A : Type 0} (P : A → Type 0) where
  pub all_append : (l k : List A) → All P l → All P k → All P (l ++ k)
  unfolding All
  all_append [] k b c = c
  all_append (x ∷ xs) k b c = (b.0, all_append xs k b.1 c)

  pub all_one : (x : A) → P x → All P (x ∷ [])
  unfolding All
  all_one x h = (h, tt)

  pub all_cons : (x : A) (xs : List A) → P x → All P xs → All P (x ∷ xs)
  unfolding All
  all_cons x xs h b = (h, b)

  pub all-each : (k : ℕ) (f : ℕ → List A) → ((i : ℕ) → i < k → All P (f i)) → All P (each k f)
  unfolding each
  all-each zero f h = unfold All in tt
  all-each (suc k) f h = all_append (each k f) (f k) (all-each k f (λ i l. h i (omega arith))) (h k (omega arith))

  all-only : (b : Bool) (x : A) → (b ≡ true → P x) → All P (only b x)
  unfolding All only
  all-only true x h = (h refl, tt)
  all-only false x h = tt

  pub all-pairs : (m : ℕ) (test : ℕ → ℕ → Bool) (f : ℕ → ℕ → A) → ((i j : ℕ) → i < m → j < m → test i j ≡ true → P (f i j)) → All P (pairs m test f)
  unfolding pairs
  all-pairs m test f h = all-each m _ (λ i li. all-each m _ (λ j lj. all-only (test i j) (f i j) (h i j li lj)))

  pub all-at : (d : A) (l : List A) (r : ℕ) → All P l → r < length l → P (get_or l r d)
  unfolding All
  all-at d [] r b h = absurd (omega arith)
  all-at d (x ∷ xs) zero b h = b.0
  all-at d (x ∷ xs) (suc r) b h = all-at d xs r b.1 (omega arith)

-- Wires
abbrev pub Below : ℕ → List ℕ → Type 0
Below n = All (λ x. x < n)

abbrev pub GateBelow : ℕ → Gate → Type 0
GateBelow n (AND l r) = (l < n) × (r < n)
GateBelow n (XOR l r) = (l < n) × (r < n)

-- each gate's wires are earlier than its own, the first having wire n
unfoldable pub Earlier : ℕ → List Gate → Type 0
Earlier n [] = Unit {0}
Earlier n (g ∷ gs) = GateBelow n g × Earlier (suc n) gs

-- each gate's wire has the gate's value
unfoldable pub OnWires : (ℕ → ℕ) → ℕ → List Gate → Type 0
OnWires v n [] = Unit {0}
OnWires v n (g ∷ gs) = (v n ≡ gate_value v g) × OnWires v (suc n) gs

pub below-mono : (n k : ℕ) (l : List ℕ) → n ≤ k → Below n l → Below k l
unfolding All
below-mono n k [] h b = tt
below-mono n k (x ∷ xs) h b = (omega arith, below-mono n k xs h b.1)

pub below_at : (n : ℕ) (l : List ℕ) (r : ℕ) → Below n l → r < length l → get_or l r 0 < n
below_at n = all-at (λ x. x < n) 0

gate-mono : (n k : ℕ) (g : Gate) → n ≤ k → GateBelow n g → GateBelow k g
gate-mono n k (AND l r) h b = (omega arith, omega arith)
gate-mono n k (XOR l r) h b = (omega arith, omega arith)

pub earlier-append : (n : ℕ) (gs hs : List Gate) → Earlier n gs → Earlier (n + length gs) hs → Earlier n (gs ++ hs)
unfolding Earlier
earlier-append n [] hs a b = rw add-zero at b
earlier-append n (g ∷ gs) hs a b = (a.0, earlier-append (suc n) gs hs a.1 (rw (add-suc, ← suc-add) at b))

pub earlier-each : (n k : ℕ) (f : ℕ → List Gate) → ((i : ℕ) → i < k → Earlier (n + length (each i f)) (f i)) → Earlier n (each k f)
unfolding each
earlier-each n zero f h = unfold Earlier in tt
earlier-each n (suc k) f h = earlier-append n (each k f) (f k) (earlier-each n k f (λ i l. h i (omega arith))) (h k (omega arith))

earlier-only : (n k : ℕ) (b : Bool) (g : Gate) → n ≤ k → GateBelow n g → Earlier k (only b g)
unfolding Earlier only
earlier-only n k true g h b = (gate-mono n k g h b, tt)
earlier-only n k false g h b = tt

-- gates of pairs whose wires are earlier than the first of them
pub earlier-pairs : (n m : ℕ) (test : ℕ → ℕ → Bool) (f : ℕ → ℕ → Gate) → ((i j : ℕ) → i < m → j < m → GateBelow n (f i j)) → Earlier n (pairs m test f)
unfolding pairs
earlier-pairs n m test f h = earlier-each n m _ (λ i li. earlier-each _ m _ (λ j lj. earlier-only n _ (test i j) (f i j) (omega arith) (h i j li lj)))

earlier-onto : (n w : ℕ) (ts : List ℕ) → w < n → Below n ts → Earlier n (onto n w ts)
unfolding Earlier All onto
earlier-onto n w [] h b = tt
earlier-onto n w (t ∷ ts) h b = ((h, b.0), earlier-onto (suc n) n ts (omega arith) (below-mono n (suc n) ts (omega arith) b.1))

pub earlier-fold : (n : ℕ) (l : List ℕ) → Below n l → Earlier n (fold n l)
unfolding All
earlier-fold n [] b = unfold Earlier in tt
earlier-fold n (w ∷ ts) b = earlier-onto n w ts b.0 b.1

last-below : (n w : ℕ) (ts : List ℕ) → w < n → last_wire n w ts < n + length ts
unfolding last_wire
last-below n w [] h = omega arith
last-below n w (t ∷ ts) h = omega (arith, last-below (suc n) n ts (omega arith))

pub end_below : (n : ℕ) (l : List ℕ) → 0 < n → Below n l → end n l < n + (length l - 1)
unfolding All
end_below n [] h b = omega arith
end_below n (w ∷ ts) h b = omega (arith, last-below n w ts b.0)

-- Runs
pub run-keeps : (gs : List Gate) (w : List ℕ) (k : ℕ) → k < length w → value_on (run gs w) k ≡ value_on w k
unfolding run
run-keeps [] w k h = refl
run-keeps (g ∷ gs) w k h =
    run-keeps gs (w ++ (gate_value (value_on w) g ∷ [])) k (rw length-append (omega arith)) ∙ get_or-append w (gate_value (value_on w) g ∷ []) 0 k h

pub run_length : (gs : List Gate) (w : List ℕ) → length (run gs w) ≡ length w + length gs
unfolding run
run_length [] w = sym (add-zero (length w))
run_length (g ∷ gs) w = run_length gs (w ++ (gate_value (value_on w) g ∷ [])) ∙ rw length-append (omega arith)

-- a gate's value is that of its wires
value-ext : (n : ℕ) (v u : ℕ → ℕ) (g : Gate) → GateBelow n g → ((k : ℕ) → k < n → v k ≡ u k) → gate_value v g ≡ gate_value u g
value-ext n v u (AND l r) b h = ap₂ ◌*◌ (h l b.0) (h r b.1)
value-ext n v u (XOR l r) b h = ap₂ (λ x y. (x + y) % 2) (h l b.0) (h r b.1)

pub run_holds : (gs : List Gate) (w : List ℕ) → Earlier (length w) gs → OnWires (value_on (run gs w)) (length w) gs
unfolding run OnWires Earlier
run_holds [] w e = tt
run_holds (g ∷ gs) w e = (
  run-keeps gs u (length w) (rw length-append (omega arith)) ∙ get_or-append_seam w (gate_value (value_on w) g) [] 0
      ∙ sym (value-ext (length w) (value_on (run gs u)) (value_on w) g e.0 old),
  rw one at (run_holds gs u (rw one e.1)),
)
  where
    u : List ℕ
    u = w ++ (gate_value (value_on w) g ∷ [])

    one : length u ≡ suc (length w)
    one = rw length-append (omega arith)

    old : (k : ℕ) → k < length w → value_on (run gs u) k ≡ value_on w k
    old k h = run-keeps gs u k (rw length-append (omega arith)) ∙ get_or-append w _ 0 k h

-- every value is 0 or 1
abbrev pub Bits : List ℕ → Type 0
Bits w = (k : ℕ) → value_on w k < 2

bits-value : (w : List ℕ) (g : Gate) → Bits w → gate_value (value_on w) g < 2
bits-value w (AND l r) h = times (value_on w l) (value_on w r) (h l) (h r)
  where
    times : (x y : ℕ) → x < 2 → y < 2 → x * y < 2
    times zero y a b = omega arith
    times (suc zero) y a b = omega arith
    times (suc (suc x)) y a b = absurd (omega arith)
bits-value w (XOR l r) h = mod-lt _ (omega arith)

pub bits-append : (w u : List ℕ) → Bits w → Bits u → Bits (w ++ u)
bits-append [] u a b k = b k
bits-append (x ∷ w) u a b zero = a 0
bits-append (x ∷ w) u a b (suc k) = bits-append w u (λ i. a (suc i)) b k

bits-one : (x : ℕ) → x < 2 → Bits (x ∷ [])
bits-one x h zero = h
bits-one x h (suc k) = omega arith

pub run-bits : (gs : List Gate) (w : List ℕ) → Bits w → Bits (run gs w)
unfolding run
run-bits [] w h = h
run-bits (g ∷ gs) w h = run-bits gs _ (bits-append w _ h (bits-one _ (bits-value w g h)))

pub holds-append : (v : ℕ → ℕ) (n : ℕ) (gs hs : List Gate) → OnWires v n (gs ++ hs) → OnWires v n gs × OnWires v (n + length gs) hs
unfolding OnWires
holds-append v n [] hs h = (tt, rw add-zero h)
holds-append v n (g ∷ gs) hs h = let r = holds-append v (suc n) gs hs h.1 in ((h.0, r.0), rw (add-suc, ← suc-add) r.1)

pub holds-each : (v : ℕ → ℕ) (n k : ℕ) (f : ℕ → List Gate) → OnWires v n (each k f) → (i : ℕ) → i < k → OnWires v (n + length (each i f)) (f i)
unfolding each
holds-each v n zero f h i l = absurd (omega arith)
holds-each v n (suc k) f h i l = let r = holds-append v n (each k f) (f k) h in elim (ℕ_discrete i k) [
  | yes e ↦ rw e r.1
  | no ne ↦ holds-each v n k f r.0 i (omega arith)
]

holds-only : (v : ℕ → ℕ) (n : ℕ) (b : Bool) (g : Gate) → b ≡ true → OnWires v n (only b g) → v n ≡ gate_value v g
unfolding OnWires only
holds-only v n true g e h = h.0
holds-only v n false g e h = absurd (true≢false (sym e))

-- the gate of a pair that is picked
pub holds-pairs : (v : ℕ → ℕ) (n m : ℕ) (test : ℕ → ℕ → Bool) (f : ℕ → ℕ → Gate) → OnWires v n (pairs m test f) →
    (i j : ℕ) → i < m → j < m → test i j ≡ true → v (n + before m test i j) ≡ gate_value v (f i j)
unfolding pairs
holds-pairs v n m test f h i j li lj e =
    ap v (omega (arith, length_before m test f i j)) ∙ holds-only v _ (test i j) (f i j) e (holds-each v _ m _ (holds-each v n m _ h i li) j lj)

-- Folds
-- the sum of the values on wires
unfoldable pub total : (ℕ → ℕ) → List ℕ → ℕ
total v [] = 0
total v (t ∷ ts) = v t + total v ts

pub total-append : (v : ℕ → ℕ) (l k : List ℕ) → total v (l ++ k) ≡ total v l + total v k
unfolding total
total-append v [] k = omega arith
total-append v (x ∷ xs) k = omega (arith, total-append v xs k)

pub total-cons : (v : ℕ → ℕ) (t : ℕ) (ts : List ℕ) → total v (t ∷ ts) ≡ v t + total v ts
unfolding total
total-cons v t ts = refl

pub total-one : (v : ℕ → ℕ) (t : ℕ) → total v (t ∷ []) ≡ v t
unfolding total
total-one v t = add-zero (v t)

total-each : (v : ℕ → ℕ) (n : ℕ) (f : ℕ → List ℕ) → total v (each n f) ≡ sum n (λ i. total v (f i))
unfolding each sum
total-each v zero f = unfold total in refl
total-each v (suc n) f = rw (total-append, total-each v n f)

total-only : (v : ℕ → ℕ) (b : Bool) (x : ℕ) → total v (only b x) ≡ num b * v x
unfolding total only
total-only v true x = omega arith
total-only v false x = omega arith

pub total-pairs : (v : ℕ → ℕ) (m : ℕ) (test : ℕ → ℕ → Bool) (f : ℕ → ℕ → ℕ) → total v (pairs m test f) ≡ sum m (λ i. sum m (λ j. num (test i j) * v (f i j)))
unfolding pairs
total-pairs v m test f = simp (total-each, total-only)

onto-value : (v : ℕ → ℕ) (n w : ℕ) (ts : List ℕ) → OnWires v n (onto n w ts) → v (last_wire n w ts) % 2 ≡ (v w + total v ts) % 2
unfolding OnWires onto last_wire total
onto-value v n w [] h = omega arith
onto-value v n w (t ∷ ts) h = omega (arith, onto-value v (suc n) n ts h.1, h.0)

pub fold-value : (v : ℕ → ℕ) (n : ℕ) (l : List ℕ) → 0 < length l → OnWires v n (fold n l) → v (end n l) % 2 ≡ total v l % 2
unfolding total
fold-value v n [] p h = absurd (omega arith)
fold-value v n (w ∷ ts) p h = onto-value v n w ts h

length-onto : (n w : ℕ) (ts : List ℕ) → length (onto n w ts) ≡ length ts
unfolding onto
length-onto n w [] = refl
length-onto n w (t ∷ ts) = ap suc (length-onto (suc n) n ts)

pub length-fold : (n : ℕ) (l : List ℕ) → length (fold n l) ≡ length l - 1
length-fold n [] = refl
length-fold n (w ∷ ts) = length-onto n w ts ∙ omega arith

-- Counts
pub and-append : (gs hs : List Gate) → and_gates (gs ++ hs) ≡ and_gates gs + and_gates hs
unfolding and_gates
and-append [] hs = omega arith
and-append (AND l r ∷ gs) hs = ap suc (and-append gs hs) ∙ omega arith
and-append (XOR l r ∷ gs) hs = and-append gs hs

pub xor-append : (gs hs : List Gate) → xor_gates (gs ++ hs) ≡ xor_gates gs + xor_gates hs
unfolding xor_gates
xor-append [] hs = omega arith
xor-append (AND l r ∷ gs) hs = xor-append gs hs
xor-append (XOR l r ∷ gs) hs = ap suc (xor-append gs hs) ∙ omega arith

-- these gates are all of one kind
pub record AllAnd (gs : List Gate) : Type 0 where
  pub ands : and_gates gs ≡ length gs
  pub xors : xor_gates gs ≡ 0

pub record AllXor (gs : List Gate) : Type 0 where
  pub ands : and_gates gs ≡ 0
  pub xors : xor_gates gs ≡ length gs

all-and-append : (gs hs : List Gate) → AllAnd gs → AllAnd hs → AllAnd (gs ++ hs)
all-and-append gs hs a b = record {
  ands = and-append gs hs ∙ ap₂ ◌+◌ a.ands b.ands ∙ sym (length-append gs hs);
  xors = xor-append gs hs ∙ ap₂ ◌+◌ a.xors b.xors;
}

pub all-xor-append : (gs hs : List Gate) → AllXor gs → AllXor hs → AllXor (gs ++ hs)
all-xor-append gs hs a b = record {
  ands = and-append gs hs ∙ ap₂ ◌+◌ a.ands b.ands;
  xors = xor-append gs hs ∙ ap₂ ◌+◌ a.xors b.xors ∙ sym (length-append gs hs);
}

all-and-each : (n : ℕ) (f : ℕ → List Gate) → ((i : ℕ) → AllAnd (f i)) → AllAnd (each n f)
unfolding each
all-and-each zero f h = unfold and_gates xor_gates in record { ands = refl; xors = refl }
all-and-each (suc n) f h = all-and-append (each n f) (f n) (all-and-each n f h) (h n)

pub all-xor-each : (n : ℕ) (f : ℕ → List Gate) → ((i : ℕ) → AllXor (f i)) → AllXor (each n f)
unfolding each
all-xor-each zero f h = unfold and_gates xor_gates in record { ands = refl; xors = refl }
all-xor-each (suc n) f h = all-xor-append (each n f) (f n) (all-xor-each n f h) (h n)

and-only : (b : Bool) (l r : ℕ) → AllAnd (only b (AND l r))
unfolding only and_gates xor_gates
and-only true l r = record { ands = refl; xors = refl }
and-only false l r = record { ands = refl; xors = refl }

xor-only : (b : Bool) (l r : ℕ) → AllXor (only b (XOR l r))
unfolding only and_gates xor_gates
xor-only true l r = record { ands = refl; xors = refl }
xor-only false l r = record { ands = refl; xors = refl }

pub and-pairs : (m : ℕ) (test : ℕ → ℕ → Bool) (l r : ℕ → ℕ → ℕ) → AllAnd (pairs m test (λ i j. AND (l i j) (r i j)))
unfolding pairs
and-pairs m test l r = all-and-each m _ (λ i. all-and-each m _ (λ j. and-only (test i j) (l i j) (r i j)))

pub xor-pairs : (m : ℕ) (test : ℕ → ℕ → Bool) (l r : ℕ → ℕ → ℕ) → AllXor (pairs m test (λ i j. XOR (l i j) (r i j)))
unfolding pairs
xor-pairs m test l r = all-xor-each m _ (λ i. all-xor-each m _ (λ j. xor-only (test i j) (l i j) (r i j)))

xor-onto : (n w : ℕ) (ts : List ℕ) → AllXor (onto n w ts)
unfolding onto and_gates xor_gates
xor-onto n w [] = record { ands = refl; xors = refl }
xor-onto n w (t ∷ ts) = let r = xor-onto (suc n) n ts in record { ands = r.ands; xors = ap suc r.xors }

pub xor-fold : (n : ℕ) (l : List ℕ) → AllXor (fold n l)
xor-fold n [] = unfold and_gates xor_gates in record { ands = refl; xors = refl }
xor-fold n (w ∷ ts) = xor-onto n w ts

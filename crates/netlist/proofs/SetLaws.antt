-- Laws of the products that are summed in each wire of words read as a list.
-- Sets: a gate's wire has the set of its gate, from the sets of its wires, all taken of the whole list.
-- Sums: the sum of the products of a set, of one product, and of two sets.
-- Values: where each gate is formed, the value of a gate's wire is the sum of its products modulo 2.
use mathlib.Core.Path.{◌≡◌, refl, sym, ap, ap₂, ◌∙◌}
use mathlib.Core.Logic.{inl, inr}
use mathlib.Core.Bool.{Bool, true, false, ◌&&◌, ◌||◌, and_comm, and-false, or_comm}
use mathlib.Core.List.{List, [], ◌∷◌, ◌++◌}
use Prim.Native.Nat.{ℕ, zero, suc, ◌+◌, ◌-◌, ◌*◌, ◌%◌, ◌<◌, ◌≤◌}
use native.Mathlib.Nat.{mul_comm, add-mul, add-mod, mod-mod, mod-lt, mod-eq_of_lt}
use native.Mathlib.Decide.{ℕ_discrete}
use native.Mathlib.Omega.{arith}
use lib.Dec.{eqb}
use lib.ListN.{length, get_or, replicate, length-append, length-replicate, get_or-append}
use lib.Seq.{get_or_at}
use borrow.Author.Tests.{eq-eqb, ne_eqb}
use Rattle.gf2.specs.Sums.{sum, every}
use Rattle.gf2.specs.Coordinates.{coord}
use Rattle.gf2.specs.Operands.{choose}
use Rattle.gf2.proofs.Sums.{sum-ext, sum-plus, sum-none, sum-cong, every-at}
use Rattle.gf2.proofs.Monoid.{nats, sum-big, big-point}
use Rattle.gf2.proofs.Remainders.{mul_mod_left}
use Rattle.netlist.specs.Gates.{Gate}
use Rattle.netlist.specs.Lists.{each}
use Rattle.netlist.specs.Running.{gate_value, value_on, wires, gate_of, kind_at, left_at, right_at, gate_count, gates_to, read_list}
use Rattle.netlist.specs.Judgements.{is_gate, IsA, IsB, InForm, is_formed}
use Rattle.netlist.specs.Sets.{Products, no_products, one_product, summed, gate_set, gather, sets_of, set_on}
use Rattle.netlist.proofs.FoldLaws.{GateBelow, Earlier, OnWires, length-single, earlier-each, holds-each}
use Rattle.netlist.proofs.NetlistLaws.{wires-a, wires-b, wires-bits, wires-hold}
use Rattle.netlist.proofs.GateTests.{gate-wires}
use Rattle.netlist.proofs.SetTests.{in-form}

-- Sets
gather-more : (m : ℕ) (gs : List Gate) (g : Gate) (sets : List Products) → gather m (gs ++ (g ∷ [])) sets ≡ gather m gs sets ++ (gate_set m (gather m gs sets) g ∷ [])
unfolding gather
gather-more m [] g sets = refl
gather-more m (h ∷ gs) g sets = gather-more m gs g (sets ++ (gate_set m sets h ∷ []))

set-and : (m : ℕ) (sets : List Products) (kind left right : ℕ) → kind ≡ 0 → gate_set m sets (gate_of kind left right) ≡ one_product m left right
set-and m sets zero left right e = refl
set-and m sets (suc kind) left right e = absurd (omega arith)

set-xor : (m : ℕ) (sets : List Products) (kind left right : ℕ) → ¬ (kind ≡ 0) → gate_set m sets (gate_of kind left right) ≡ summed (get_or sets left no_products) (get_or sets right no_products)
set-xor m sets zero left right n = absurd (n refl)
set-xor m sets (suc kind) left right n = refl

one_bit : (m left right i j : ℕ) → one_product m left right i j < 2
unfolding one_product
one_bit m left right i j = go ((eqb left i && eqb right (m + j)) || (eqb left (m + j) && eqb right i))
  where
    go : (b : Bool) → choose b 1 0 < 2
    go true = omega arith
    go false = omega arith

-- gate k of words
abbrev gate_on : List ℕ → ℕ → Gate
gate_on list k = gate_of (kind_at list k) (left_at list k) (right_at list k)

module _ (m : ℕ) (list : List ℕ) where
  -- the sets of the input wires and of the first k gates
  unfoldable sets_to : ℕ → List Products
  sets_to k = gather m (gates_to list k) (replicate (2 * m) no_products)

  abbrev next_set : ℕ → Products
  next_set k = gate_set m (sets_to k) (gate_on list k)

  sets_more : (k : ℕ) → sets_to (suc k) ≡ sets_to k ++ (next_set k ∷ [])
  unfolding sets_to gates_to each
  sets_more k = gather-more m (gates_to list k) (gate_on list k) _

  length-sets : (k : ℕ) → length (sets_to k) ≡ 2 * m + k
  length-sets zero = unfold sets_to gates_to each gather in (length-replicate {A = Products} (2 * m) no_products ∙ omega arith)
  length-sets (suc k) = ap length (sets_more k) ∙ length-append (sets_to k) (next_set k ∷ []) ∙ omega (arith, length-sets k)

  -- a set that is there is kept by later gates
  sets-keep : (k n w : ℕ) → k ≤ n → w < 2 * m + k → get_or (sets_to n) w no_products ≡ get_or (sets_to k) w no_products
  sets-keep k zero w h l = let e : k ≡ 0 = omega arith in rw e
  sets-keep k (suc n) w h l = elim (ℕ_discrete k (suc n)) [
    | yes e ↦ rw e
    | no ne ↦ ap (λ s. get_or s w no_products) (sets_more n) ∙ get_or-append (sets_to n) (next_set n ∷ []) no_products w (omega (arith, length-sets n))
        ∙ sets-keep k n w (omega arith) l
  ]

  set-kept : (k w : ℕ) → k ≤ gate_count list → w < 2 * m + k → set_on m (read_list list m) w ≡ get_or (sets_to k) w no_products
  unfolding sets_of read_list sets_to
  set-kept k w h l = sets-keep k (gate_count list) w h l

  gate-set : (k : ℕ) → k < gate_count list → set_on m (read_list list m) (2 * m + k) ≡ next_set k
  gate-set k h =
      set-kept (suc k) (2 * m + k) h (omega arith) ∙ ap (λ s. get_or s (2 * m + k) no_products) (sets_more k)
      ∙ get_or_at (sets_to k) (next_set k) [] no_products (2 * m + k) (length-sets k)

  pub gate-set-and : (k : ℕ) → k < gate_count list → kind_at list k ≡ 0 → set_on m (read_list list m) (2 * m + k) ≡ one_product m (left_at list k) (right_at list k)
  gate-set-and k h e = gate-set k h ∙ set-and m (sets_to k) (kind_at list k) (left_at list k) (right_at list k) e

  module _ (good : every (gate_count list) (is_gate m list) ≡ true) where
    earlier-wires : (k : ℕ) → k < gate_count list → (left_at list k < 2 * m + k) × (right_at list k < 2 * m + k)
    earlier-wires k h = gate-wires m list k (every-at (gate_count list) (is_gate m list) good k h)

    pub gate-set-xor : (k : ℕ) → k < gate_count list → ¬ (kind_at list k ≡ 0) → (i j : ℕ) →
        set_on m (read_list list m) (2 * m + k) i j ≡ (set_on m (read_list list m) (left_at list k) i j + set_on m (read_list list m) (right_at list k) i j) % 2
    gate-set-xor k h n i j =
        let w = earlier-wires k h in
        ap (λ (s : Products). s i j) (gate-set k h ∙ set-xor m (sets_to k) (kind_at list k) (left_at list k) (right_at list k) n)
        ∙ sym (ap₂ (λ (s t : Products). summed s t i j) (set-kept k (left_at list k) (omega arith) w.0) (set-kept k (right_at list k) (omega arith) w.1))

    -- a product is in a set once or not at all
    bit_in : (k : ℕ) → k < gate_count list → (i j : ℕ) → set_on m (read_list list m) (2 * m + k) i j < 2
    bit_in k h i j = elim (ℕ_discrete (kind_at list k) 0) [
      | yes e ↦ rw (gate-set-and k h e) (one_bit m (left_at list k) (right_at list k) i j)
      | no n ↦ rw (gate-set-xor k h n i j) (mod-lt _ (omega arith))
    ]

    pub set-bit : (w : ℕ) → 2 * m ≤ w → w < 2 * m + gate_count list → (i j : ℕ) → set_on m (read_list list m) w i j < 2
    set-bit w g l i j = let e : w ≡ 2 * m + (w - 2 * m) = omega arith in rw e (bit_in (w - 2 * m) (omega arith) i j)

-- Sums
-- a sum over pairs with one term that isn't 0
pub pair-point : (m i j : ℕ) (f : ℕ → ℕ → ℕ) → i < m → j < m → ((k l : ℕ) → k < m → l < m → ¬ ((k ≡ i) × (l ≡ j)) → f k l ≡ 0) →
    sum m (λ k. sum m (f k)) ≡ f i j
pair-point m i j f li lj h =
    sum-big m _ ∙ big-point nats m i _ li (λ k lk n. sum-none m (f k) (λ l ll. h k l lk ll (λ e. n e.0)))
    ∙ sum-big m (f i) ∙ big-point nats m j (f i) lj (λ l ll n. h i l li ll (λ e. n e.1))

module _ (m : ℕ) where
  one_in : (i j : ℕ) → one_product m i (m + j) i j ≡ 1
  unfolding one_product
  one_in i j = rw (eq-eqb i i refl, eq-eqb (m + j) (m + j) refl)

  one_out : (i j k l : ℕ) → i < m → ¬ ((k ≡ i) × (l ≡ j)) → one_product m i (m + j) k l ≡ 0
  unfolding one_product
  one_out i j k l li n = rw (ne_eqb i (m + l) (omega arith)) (elim (ℕ_discrete k i) [
    | yes e ↦ rw (ne_eqb (m + j) (m + l) (λ q. n (e, omega arith)), and-false)
    | no ne ↦ rw (ne_eqb i k (omega arith))
  ])

  -- the wires of an AND may be exchanged
  pub one-comm : (left right i j : ℕ) → one_product m left right i j ≡ one_product m right left i j
  unfolding one_product
  one-comm left right i j = ap (λ t. choose t 1 0) (
      or_comm (eqb left i && eqb right (m + j)) (eqb left (m + j) && eqb right i)
      ∙ ap₂ ◌||◌ (and_comm (eqb left (m + j)) (eqb right i)) (and_comm (eqb left i) (eqb right (m + j))))

  module _ (a b : List ℕ) where
    -- the sum of the products of a set
    abbrev pub sum_of : Products → ℕ
    sum_of s = sum m (λ i. sum m (λ j. s i j * (coord a i * coord b j)))

    pub sum_same : (s t : Products) → ((i j : ℕ) → i < m → j < m → s i j ≡ t i j) → sum_of s ≡ sum_of t
    sum_same s t h = sum-ext m _ _ (λ i li. sum-ext m _ _ (λ j lj. ap (λ x. x * (coord a i * coord b j)) (h i j li lj)))

    sum-product : (i j : ℕ) → i < m → j < m → sum_of (one_product m i (m + j)) ≡ coord a i * coord b j
    sum-product i j li lj =
        pair-point m i j _ li lj (λ k l lk ll n. ap (λ x. x * (coord a k * coord b l)) (one_out i j k l li n) ∙ omega arith)
        ∙ ap (λ x. x * (coord a i * coord b j)) (one_in i j) ∙ omega arith

    -- modulo 2 a product that is in both falls out
    sum-summed : (s t : Products) → sum_of (summed s t) % 2 ≡ (sum_of s + sum_of t) % 2
    sum-summed s t =
        sum-cong m _ (λ i. sum m (λ j. s i j * x i j) + sum m (λ j. t i j * x i j)) (λ i li.
        sum-cong m _ (λ j. s i j * x i j + t i j * x i j) (λ j lj. sym (mul_mod_left (s i j + t i j) (x i j) 2) ∙ ap (λ y. y % 2) (add-mul (s i j) (t i j) (x i j)))
        ∙ ap (λ y. y % 2) (sum-plus m _ _))
        ∙ ap (λ y. y % 2) (sum-plus m _ _)
      where
        x : ℕ → ℕ → ℕ
        x i j = coord a i * coord b j

-- Values
gate-below : (n kind left right : ℕ) → left < n → right < n → GateBelow n (gate_of kind left right)
gate-below n zero left right h l = (h, l)
gate-below n (suc kind) left right h l = (h, l)

module _ (m : ℕ) (list a b : List ℕ) (good : every (gate_count list) (is_gate m list) ≡ true) where
  abbrev v : ℕ → ℕ
  v = value_on (wires m (read_list list m) a b)

  -- the sum of the products that are summed in a wire
  abbrev sum_in : ℕ → ℕ
  sum_in w = sum_of m a b (set_on m (read_list list m) w)

  words-earlier : Earlier (2 * m) (read_list list m).gates
  unfolding read_list gates_to Earlier
  words-earlier = earlier-each (2 * m) (gate_count list) _ (λ k l.
      let w = earlier-wires m list good k l in
      rw (length-single k (gate_on list)) (gate-below (2 * m + k) (kind_at list k) (left_at list k) (right_at list k) w.0 w.1, tt))

  gate-value : (k : ℕ) → k < gate_count list → v (2 * m + k) ≡ gate_value v (gate_on list k)
  unfolding read_list gates_to OnWires
  gate-value k l =
      ap (λ n. v (2 * m + n)) (sym (length-single k (gate_on list)))
      ∙ (holds-each v (2 * m) (gate_count list) _ (wires-hold m a b (read_list list m) words-earlier) k l).0

  -- the product of a wire of a and one of b
  pair-value : (left right : ℕ) → IsA m left → IsB m right → v left * v right ≡ sum_of m a b (one_product m left right)
  pair-value left right la lb =
      let e : right ≡ m + (right - m) = omega arith in
      rw e (ap₂ ◌*◌ (wires-a m a b (read_list list m) left la) (wires-b m a b (read_list list m) (right - m) (omega arith)) ∙ sym (sum-product m a b left (right - m) la (omega arith)))

  -- the value of a gate of this kind, whose wires before it have the sums of their products
  formed-value : (kind left right : ℕ) → InForm m kind left right → (2 * m ≤ left → v left ≡ sum_in left % 2) → (2 * m ≤ right → v right ≡ sum_in right % 2) →
      (s : Products) → (kind ≡ 0 → s ≡ one_product m left right) → (¬ (kind ≡ 0) → (i j : ℕ) → s i j ≡ summed (set_on m (read_list list m) left) (set_on m (read_list list m) right) i j) →
      gate_value v (gate_of kind left right) % 2 ≡ sum_of m a b s % 2
  formed-value zero left right (inl f) p q s x y = ap (λ z. z % 2) (pair-value left right f.0 f.1 ∙ ap (sum_of m a b) (sym (x refl)))
  formed-value zero left right (inr f) p q s x y = ap (λ z. z % 2) (
      mul_comm (v left) (v right) ∙ pair-value right left f.1 f.0
      ∙ sum_same m a b _ _ (λ i j li lj. one-comm m right left i j) ∙ ap (sum_of m a b) (sym (x refl)))
  formed-value (suc kind) left right f p q s x y =
      mod-mod (v left + v right) 2 ∙ ap₂ (λ y z. (y + z) % 2) (p (omega (arith, f.0))) (q (omega (arith, f.1)))
      ∙ sym (add-mod (sum_in left) (sum_in right) 2) ∙ sym (sum-summed m a b (set_on m (read_list list m) left) (set_on m (read_list list m) right))
      ∙ ap (λ z. z % 2) (sum_same m a b _ s (λ i j li lj. sym (y (λ e. omega arith) i j)))

  module _ (formed : every (gate_count list) (is_formed m list) ≡ true) where
    next-value : (k : ℕ) → k < gate_count list → ((w : ℕ) → 2 * m ≤ w → w < 2 * m + k → v w ≡ sum_in w % 2) → v (2 * m + k) ≡ sum_in (2 * m + k) % 2
    next-value k l before =
        let w = earlier-wires m list good k l in
        let f = in-form m (kind_at list k) (left_at list k) (right_at list k) (every-at (gate_count list) (is_formed m list) formed k l) in
        sym (mod-eq_of_lt (wires-bits m a b (read_list list m) (2 * m + k))) ∙ ap (λ z. z % 2) (gate-value k l)
        ∙ formed-value (kind_at list k) (left_at list k) (right_at list k) f (λ h. before (left_at list k) h w.0) (λ h. before (right_at list k) h w.1)
        (set_on m (read_list list m) (2 * m + k)) (gate-set-and m list k l) (gate-set-xor m list good k l)

    value-to : (n : ℕ) → n ≤ gate_count list → (w : ℕ) → 2 * m ≤ w → w < 2 * m + n → v w ≡ sum_in w % 2
    value-to zero h w g l = absurd (omega arith)
    value-to (suc n) h w g l = elim (ℕ_discrete w (2 * m + n)) [
      | yes e ↦ rw e (next-value n h (value-to n (omega arith)))
      | no ne ↦ value-to n (omega arith) w g (omega arith)
    ]

    pub wire-value : (w : ℕ) → 2 * m ≤ w → w < 2 * m + gate_count list → value_on (wires m (read_list list m) a b) w ≡ sum_of m a b (set_on m (read_list list m) w) % 2
    wire-value w g l = value-to (gate_count list) (omega arith) w g l

-- The tests of a list that is to be accepted decide: of its gates' form, of two sets of products, and of each output.
use mathlib.Core.Path.{◌≡◌, refl, sym, ◌∙◌}
use mathlib.Core.Logic.{◌↔◌, ◌⊎◌, inl, inr}
use mathlib.Core.Bool.{Bool, true, false, not, ◌&&◌, ◌||◌, true≢false}
use mathlib.Core.List.{List}
use Prim.Native.Nat.{ℕ, zero, suc, ◌*◌, ◌≤◌}
use native.Mathlib.Omega.{arith}
use lib.Dec.{leb, ltb}
use borrow.Author.Tests.{ltb-true, ltb-false, lt-ltb, leb-true, le-leb, eqb-true, eq-eqb, not-true}
use Rattle.gf2.specs.Sums.{every}
use Rattle.gf2.proofs.Sums.{every-at, every_of, every-fails}
use Rattle.gf2.proofs.Parity.{and_both}
use Rattle.gf2.proofs.Decisions.{unless}
use Rattle.netlist.specs.Running.{kind_at, left_at, right_at, gate_count, output_at, read_list}
use Rattle.netlist.specs.Judgements.{IsA, IsB, InForm, HasOtherGate, is_pair, is_in_form, is_formed}
use Rattle.netlist.specs.Sets.{Products, set_on, wanted, SameProducts, same_products, IsWrongOutput, is_right_output}

or-true : (a b : Bool) → (a || b) ≡ true → (a ≡ true) ⊎ (b ≡ true)
or-true true b e = inl refl
or-true false b e = inr e

or_left : (a b : Bool) → a ≡ true → (a || b) ≡ true
or_left a b e = rw e

or_right : (a b : Bool) → b ≡ true → (a || b) ≡ true
or_right true b e = refl
or_right false b e = e

module _ (m : ℕ) where
  pair-true : (a b : ℕ) → is_pair m a b ≡ true → IsA m a × IsB m b
  pair-true a b e =
      let q = and_both (ltb a m) (leb m b && ltb b (2 * m)) e in
      let p = and_both (leb m b) (ltb b (2 * m)) q.1 in
      (ltb-true a m q.0, (leb-true m b p.0, ltb-true b (2 * m) p.1))

  pair_is : (a b : ℕ) → IsA m a × IsB m b → is_pair m a b ≡ true
  pair_is a b h = rw (lt-ltb a m h.0, le-leb m b h.1.0, lt-ltb b (2 * m) h.1.1)

  pub in-form : (kind l r : ℕ) → is_in_form m kind l r ≡ true → InForm m kind l r
  unfolding is_in_form
  in-form zero l r e = go (or-true (is_pair m l r) (is_pair m r l) e)
    where
      go : (is_pair m l r ≡ true) ⊎ (is_pair m r l ≡ true) → InForm m zero l r
      go (inl p) = inl (pair-true l r p)
      go (inr p) = let q = pair-true r l p in inr (q.1, q.0)
  in-form (suc kind) l r e =
      let q = and_both (leb (2 * m) l) (leb (2 * m) r) e in
      let a = leb-true (2 * m) l q.0 in
      let b = leb-true (2 * m) r q.1 in
      (λ h. omega arith, λ h. omega arith)

  pub form-is : (kind l r : ℕ) → InForm m kind l r → is_in_form m kind l r ≡ true
  unfolding is_in_form
  form-is zero l r (inl h) = or_left (is_pair m l r) (is_pair m r l) (pair_is l r h)
  form-is zero l r (inr h) = or_right (is_pair m l r) (is_pair m r l) (pair_is r l (h.1, h.0))
  form-is (suc kind) l r h = rw (le-leb (2 * m) l (omega (arith, h.0)), le-leb (2 * m) r (omega (arith, h.1)))

  pub form-decides : (list : List ℕ) → (not (every (gate_count list) (is_formed m list)) ≡ true) ↔ HasOtherGate m list
  form-decides list = unless (every (gate_count list) (is_formed m list))
      (λ e w. w.2 (in-form (kind_at list w.0) (left_at list w.0) (right_at list w.0) (every-at (gate_count list) (is_formed m list) e w.0 w.1)))
      (λ e. let w = every-fails (gate_count list) (is_formed m list) e in
      (w.0, w.1, λ h. true≢false (sym (form-is (kind_at list w.0) (left_at list w.0) (right_at list w.0) h) ∙ w.2)))

  module _ (s t : Products) where
    pub same_at : same_products m s t ≡ true → SameProducts m s t
    unfolding same_products
    same_at e i j li lj = eqb-true (s i j) (t i j) (every-at m _ (every-at m _ e i li) j lj)

    pub same_of : SameProducts m s t → same_products m s t ≡ true
    unfolding same_products
    same_of h = every_of m _ (λ i li. every_of m _ (λ j lj. eq-eqb (s i j) (t i j) (h i j li lj)))

  module _ (table list : List ℕ) (r : ℕ) where
    abbrev set : Products
    set = set_on m (read_list list m) (output_at list r)

    -- what an output is that has passed
    pub right-output : is_right_output m table list r ≡ true → (2 * m ≤ output_at list r) × SameProducts m set (wanted m table r)
    unfolding is_right_output
    right-output e =
        let q = and_both (not (ltb (output_at list r) (2 * m))) (same_products m set (wanted m table r)) e in
        (ltb-false (output_at list r) (2 * m) (not-true _ q.0), same_at set (wanted m table r) q.1)

    wrong-output : is_right_output m table list r ≡ false → IsWrongOutput m table list r
    unfolding is_right_output
    wrong-output e = go (ltb (output_at list r) (2 * m)) (same_products m set (wanted m table r)) refl refl e
      where
        go : (a b : Bool) → ltb (output_at list r) (2 * m) ≡ a → same_products m set (wanted m table r) ≡ b → (not a && b) ≡ false → IsWrongOutput m table list r
        go true b p q f = inl (ltb-true (output_at list r) (2 * m) p)
        go false false p q f = inr (λ h. true≢false (sym (same_of set (wanted m table r) h) ∙ q))
        go false true p q f = absurd (true≢false f)

    pub output-decides : (not (is_right_output m table list r) ≡ true) ↔ IsWrongOutput m table list r
    output-decides = unless (is_right_output m table list r) (λ e. let q = right-output e in go q.0 q.1) wrong-output
      where
        go : 2 * m ≤ output_at list r → SameProducts m set (wanted m table r) → ¬ IsWrongOutput m table list r
        go l h (inl w) = omega arith
        go l h (inr w) = w h

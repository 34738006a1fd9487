-- The proofs of the statements in specs/Statements.antt.
-- Turns and sums by the vectors of operands; the quadratic by its coordinates; the transfer by the coordinates of bytes.
use mathlib.Core.Path.{◌≡◌, refl, sym, subst, ap, fun_ext, ◌∙◌}
use mathlib.Core.Bool.{Bool, true, false}
use mathlib.Core.List.{List}
use Prim.Native.Nat.{ℕ, zero, suc, ◌+◌, ◌-◌, ◌*◌, ◌%◌, ◌<◌, ◌≤◌}
use native.Mathlib.Nat.{add-mod_left}
use native.Mathlib.Omega.{arith}
use Rattle.gf2.specs.Coordinates.{coord}
use Rattle.gf2.specs.Operands.{minus, IsOperand, zeroes, added, turned, squared}
use Rattle.gf2.specs.Quadratic.{trace, root_coord, root}
use Rattle.gf2.proofs.Coordinates.{coord-lt}
use Rattle.gf2.proofs.Parity.{odd, bits, ◌⊕◌, xor_self, xor-cancel, xor_comm, xor_assoc, odd-eq, odd-mod, odd-zero}
use Rattle.gf2.proofs.Index.{at, ◌⊖◌, o, num-at, add-sub, at-add}
use Rattle.gf2.proofs.IndexSums.{Σ, Σ-plus, Σ-shift, odd-Σ}
use Rattle.gf2.proofs.Vector.{Vec, turn, add, zeros, add_comm, add_assoc, add-zeros, add-self, turn-turn, turn-z, turn_suc, turn-all, turn-add, fixed}
use Rattle.gf2.proofs.Operands.{coord-from, from-operand, operand-ext, minus-lt, minus-below, minus-round, turned-operand, turned-modulo, added-operand, coord-turned, coord-added}
use Rattle.gf2.proofs.OperandVectors.{vec, bytes, operand-vec, vec-bytes, zeroes-vec, added-bytes, turned-bytes, bytes-inj}
use Rattle.quadratic.proofs.QuadraticLimbs.{root-sum}
use Rattle.operand.specs.Statements.{times, TurnLaws, SumLaws, quadratic, QuadraticLaws, OperandLaws}

-- two bits whose sum is 0 are equal; equal sums of two and two, with the middle two exchanged
equal : (a b : Bool) → a ⊕ b ≡ false → a ≡ b
equal true true e = refl
equal true false e = e
equal false true e = sym e
equal false false e = refl

cross : (a b c d : Bool) → a ⊕ b ≡ c ⊕ d → a ⊕ c ≡ b ⊕ d
cross a b c d e =
    ap (λ x. x ⊕ c) (sym (xor-cancel b a) ∙ ap (λ x. b ⊕ x) (xor_comm b a ∙ e)) ∙ xor_assoc b (c ⊕ d) c
    ∙ ap (λ x. b ⊕ x) (xor_comm (c ⊕ d) c ∙ xor-cancel c d)

module _ (n p : ℕ) (fits : suc p ≤ 8 * n) where
  -- what holds of the bytes of every vector holds of every operand
  each : (P : List ℕ → Type 0) → ((v : Vec p) → P (bytes p n v)) → (a : List ℕ) → IsOperand n (suc p) a → P a
  each P h a q = subst P (sym (operand-vec p q)) (h (vec p a))

  added-b : (v w : Vec p) → added (suc p) (bytes p n v) (bytes p n w) ≡ bytes p n (add v w)
  added-b = added-bytes p n fits

  turned-b : (k : ℕ) (v : Vec p) → turned (suc p) k (bytes p n v) ≡ bytes p n (turn (at k) v)
  turned-b = turned-bytes p n fits

  rounds : (k : ℕ) (v : Vec p) → times k (turned (suc p) 1) (bytes p n v) ≡ bytes p n (turn (at k) v)
  unfolding times
  rounds zero v = rw turn-z
  rounds (suc k) v = rw (rounds k v, turned-b, turn_suc)

  turn-laws : TurnLaws n (suc p)
  turn-laws = record {
    modulo = turned-modulo (suc p);
    twice = λ j k. each (λ a. turned (suc p) k (turned (suc p) j a) ≡ turned (suc p) (j + k) a) (λ v. rw (turned-b j v, turned-b k (turn (at j) v), turned-b (j + k) v, turn-turn, at-add));
    none = each (λ a. turned (suc p) 0 a ≡ a) (λ v. rw (turned-b 0 v, turn-z));
    whole = each (λ a. turned (suc p) (suc p) a ≡ a) (λ v. rw (turned-b (suc p) v, turn-all));
    round = each (λ a. times (suc p) (turned (suc p) 1) a ≡ a) (λ v. rw (rounds (suc p) v, turn-all));
    square = λ a. unfold squared in refl;
    one_more = λ a. unfold squared in turned-modulo (suc p) (suc p + 1) a ∙ ap (λ k. turned (suc p) k a) (add-mod_left (suc p) 1) ∙ sym (turned-modulo (suc p) 1 a);
  }

  sum-laws : SumLaws n (suc p)
  sum-laws = record {
    associative = λ a b c oa ob oc. each (λ x. added (suc p) (added (suc p) x b) c ≡ added (suc p) x (added (suc p) b c)) (λ u.
        each (λ y. added (suc p) (added (suc p) (bytes p n u) y) c ≡ added (suc p) (bytes p n u) (added (suc p) y c)) (λ v.
        each (λ z. added (suc p) (added (suc p) (bytes p n u) (bytes p n v)) z ≡ added (suc p) (bytes p n u) (added (suc p) (bytes p n v) z)) (λ w.
        simp (added-b, add_assoc)) c oc) b ob) a oa;
    commutative = λ a b oa ob. each (λ x. added (suc p) x b ≡ added (suc p) b x) (λ u.
        each (λ y. added (suc p) (bytes p n u) y ≡ added (suc p) y (bytes p n u)) (λ v.
        added-b u v ∙ ap (bytes p n) (add_comm u v) ∙ sym (added-b v u)) b ob) a oa;
    zero = each (λ a. added (suc p) a (zeroes n (suc p)) ≡ a) (λ v. rw (zeroes-vec p n, added-b v zeros, add-zeros));
    inverse = each (λ a. added (suc p) a a ≡ zeroes n (suc p)) (λ v. rw (zeroes-vec p n, added-b v v, add-self));
  }

  root-operand : (c : List ℕ) → IsOperand n (suc p) c → IsOperand n (suc p) (root (suc p) c)
  unfolding root
  root-operand c oc = rw oc.size (from-operand n (suc p) (root_coord c))

  coord-root : (c : List ℕ) → IsOperand n (suc p) c → (i : ℕ) → i < suc p → coord (root (suc p) c) i ≡ root_coord c i % 2
  unfolding root
  coord-root c oc i l = rw oc.size (coord-from n (suc p) (root_coord c) fits i l)

  head : (c : List ℕ) → IsOperand n (suc p) c → coord (root (suc p) c) 0 ≡ 0
  head c oc = coord-root c oc 0 (omega arith) ∙ (unfold root_coord in refl)

  coord-quadratic : (z : List ℕ) → IsOperand n (suc p) z → (i : ℕ) → i < suc p → coord (quadratic (suc p) z) i ≡ (coord z (minus (suc p) i 1) + coord z i) % 2
  unfolding squared
  coord-quadratic z oz i l =
      coord-added _ (turned-operand z oz.size 1).size fits z i l ∙ ap (λ x. (x + coord z i) % 2) (coord-turned z oz.size fits 1 i l)

  -- the steps of the solution: from its last coordinate to the first by the trace, and from each to the next by its definition
  steps : 1 < suc p → (c : List ℕ) → trace (suc p) c ≡ 0 → (i : ℕ) → i < suc p → (root_coord c (minus (suc p) i 1) + root_coord c i) % 2 ≡ coord c i
  unfolding root_coord trace
  steps two c e zero l = let back : 0 + (suc p - 1) ≡ p = omega arith in rw (minus-round (suc p) 0 1 (omega arith) two, back) (omega (arith, root-sum c p, coord-lt c 0))
  steps two c e (suc i) l = let back : suc i - 1 ≡ i = omega arith in rw (minus-below (suc p) (suc i) 1 (omega arith) l, back) (omega (arith, coord-lt c (suc i)))

  solves : 1 < suc p → (c : List ℕ) → IsOperand n (suc p) c → trace (suc p) c ≡ 0 → quadratic (suc p) (root (suc p) c) ≡ c
  unfolding squared minus
  solves two c oc e = operand-ext (added-operand _ (turned-operand _ (root-operand c oc).size 1).size _) oc (λ i l.
      coord-quadratic _ (root-operand c oc) i l
      ∙ parts _ _ (coord-root c oc (minus (suc p) i 1) (minus-lt (suc p) i 1 (omega arith))) (coord-root c oc i l) ∙ steps two c e i l)
    where
      parts : {x y : ℕ} (r t : ℕ) → x ≡ r % 2 → y ≡ t % 2 → (x + y) % 2 ≡ (r + t) % 2
      parts r t q s = omega arith

  -- the trace as a sum of bits, and a vector's solution
  odd-trace : (a : List ℕ) → odd (trace (suc p) a) ≡ Σ bits (vec p a)
  unfolding trace vec
  odd-trace a = odd-mod _ ∙ odd-Σ p (coord a)

  -- a sum of a vector and its turn has no trace
  sum-turned : (v : Vec p) → Σ bits (add (turn (at 1) v) v) ≡ false
  unfolding add turn
  sum-turned v =
      Σ-plus bits (λ x. v (x ⊖ at 1)) v
      ∙ ap (λ s. s ⊕ Σ bits v) (sym (Σ-shift bits (λ x. v (x ⊖ at 1)) (at 1)) ∙ ap (Σ bits) (fun_ext (λ x. ap v (add-sub x (at 1)))))
      ∙ xor_self (Σ bits v)

  quadratic-b : (v : Vec p) → quadratic (suc p) (bytes p n v) ≡ bytes p n (add (turn (at 1) v) v)
  unfolding squared
  quadratic-b v = rw (turned-b 1 v, added-b)

  traceless : (c z : List ℕ) → IsOperand n (suc p) c → IsOperand n (suc p) z → quadratic (suc p) z ≡ c → trace (suc p) c ≡ 0
  unfolding trace
  traceless c z oc oz e = each (λ a. quadratic (suc p) a ≡ c → trace (suc p) c ≡ 0) (λ v q.
      let u : vec p c ≡ add (turn (at 1) v) v = ap (vec p) (sym q ∙ quadratic-b v) ∙ vec-bytes p n _ fits in
      let t : odd (trace (suc p) c) ≡ odd 0 = odd-trace c ∙ ap (Σ bits) u ∙ sum-turned v ∙ sym odd-zero in
      omega (arith, (odd-eq (trace (suc p) c) 0).0 t)) z oz e

  -- two vectors with one value of the quadratic and one coordinate 0 are equal
  one-root : (v w : Vec p) → add (turn (at 1) v) v ≡ add (turn (at 1) w) w → v o ≡ w o → v ≡ w
  unfolding add
  one-root v w e q = fun_ext (λ x. equal (v x) (w x) (fixed (add v w) still x ∙ ap (λ b. b ⊕ w o) q ∙ xor_self (w o)))
    where
      still : turn (at 1) (add v w) ≡ add v w
      still = turn-add (at 1) v w ∙ fun_ext (λ x. cross (turn (at 1) v x) (v x) (turn (at 1) w x) (w x) (ap (λ (f : Vec p). f x) e))

  only : 1 < suc p → (c z : List ℕ) → IsOperand n (suc p) c → IsOperand n (suc p) z → coord z 0 ≡ 0 → quadratic (suc p) z ≡ c → z ≡ root (suc p) c
  unfolding vec
  only two c z oc oz first e = operand-vec p oz ∙ ap (bytes p n) (one-root _ _ same heads) ∙ sym (operand-vec p (root-operand c oc))
    where
      image : (a : List ℕ) → IsOperand n (suc p) a → quadratic (suc p) a ≡ c → bytes p n (add (turn (at 1) (vec p a)) (vec p a)) ≡ c
      image a oa q = sym (quadratic-b (vec p a)) ∙ ap (quadratic (suc p)) (sym (operand-vec p oa)) ∙ q

      same : add (turn (at 1) (vec p z)) (vec p z) ≡ add (turn (at 1) (vec p (root (suc p) c))) (vec p (root (suc p) c))
      same = bytes-inj p n fits _ _ (image z oz e ∙ sym (image (root (suc p) c) (root-operand c oc) (solves two c oc (traceless c z oc oz e))))

      heads : vec p z o ≡ vec p (root (suc p) c) o
      heads = ap (λ i. odd (coord z i)) (num-at {p = p} 0 (omega arith)) ∙ ap odd (first ∙ sym (head c oc)) ∙ ap (λ i. odd (coord (root (suc p) c) i)) (sym (num-at {p = p} 0 (omega arith)))

  quadratic-laws : 1 < suc p → QuadraticLaws n (suc p)
  quadratic-laws two = record { first = head; solves = solves two; only = only two; traceless = traceless }

-- the width as a successor
pub operand-laws : OperandLaws
operand-laws = record {
  turns = λ n m. go n m (TurnLaws n) (λ p two fits. turn-laws n p fits);
  sums = λ n m. go n m (SumLaws n) (λ p two fits. sum-laws n p fits);
  quadratics = λ n m. go n m (QuadraticLaws n) (λ p two fits. quadratic-laws n p fits two);
}
  where
    go : (n m : ℕ) (L : ℕ → Type 0) → ((p : ℕ) → 1 < suc p → suc p ≤ 8 * n → L (suc p)) → 2 ≤ m → m ≤ 8 * n → L m
    go n zero L h two fits = absurd (omega arith)
    go n (suc p) L h two fits = h p two fits

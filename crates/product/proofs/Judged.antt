-- What has passed where no fault is given, and the same causes carried and as W bytes.
-- Passed: the table, factors by a method, operands of its width. Zero: no bit at 0 or above.
-- Bytes: causes judged on the carried bytes are those of the W bytes, and so are the answers.
-- Methods: the calls by a method, by the causes that each product has and the rules that the method asks for.
use Rattle.std.specs.Prelude.{Result, Ok, Err}
use mathlib.Core.Path.{◌≡◌, refl, sym, ap, ◌∙◌}
use mathlib.Core.Bool.{true, false}
use mathlib.Core.List.{List, [], ◌∷◌, ◌++◌}
use Prim.Native.Nat.{ℕ, ◌≤◌}
use native.Mathlib.Omega.{arith}
use lib.ListN.{length}
use Rattle.gf2.specs.Coordinates.{coord, pack}
use Rattle.gf2.specs.Operands.{bytes_for, carried_bytes, carried_by, IsOperand, is_clear, zeroes, same}
use Rattle.gf2.specs.Inverse.{inverse, products_made}
use Rattle.gf2.proofs.Parity.{bool-ext}
use Rattle.gf2.proofs.Coordinates.{coord-none}
use Rattle.gf2.proofs.Operands.{from-operand, from-eq, clear_at, clear_of}
use Rattle.gf2.proofs.Carrying.{HasBytes, carried_from, same-carried, product-carried, product_is, reduced-carried, reduced-is, has-bytes, written-carried, inverse-carried, inverse-is, count-carried}
use Rattle.gf2.proofs.Decisions.{same-decides}
use Rattle.judging.specs.declared.fault.Fault.{Fault}
use Rattle.judging.specs.Causes.{Cause, Verdict, judged}
use Rattle.judging.specs.FaultTable.{bad_width, bad_length, not_w, not_table, high_bit, high_bit_in_row, is_zero, shape_causes, rule_causes}
use Rattle.judging.proofs.CauseLaws.{Fine, fine, head-fails, same_head, goes_on, answer-failed, answer-passed}
use Rattle.judging.proofs.Passed.{IsWidth as IsPassed, is-width, width-passes, is-clear}
use Rattle.limbs.proofs.ByteLists.{Bytes}
use Rattle.operand.specs.declared.Operand.{Operand}
use Rattle.operand.specs.Calls.{answer, written}
use Rattle.operand.proofs.CallLaws.{zero-bytes, high_same, Sized, SizedPair}
use Rattle.table.specs.Rows.{Shaped}
use Rattle.table.proofs.Shapes.{shape-rows, shape-none, row-bytes}
use Rattle.table.proofs.Theorems.{rules}
use Rattle.product.specs.declared.Inverted.{Inverted}
use Rattle.scatter.specs.declared.methods.Method.{Method}
use Rattle.scatter.specs.declared.methods.Method.TheVariants.{Plain, Reduced}
use Rattle.product.specs.Calls.{counted, multiplied, multiply_call, multiply_into}
use Rattle.product.specs.Causes.{rules_by, method_causes, method_bytes_causes}
use Rattle.product.specs.Inner.{IsWidth, Sound, Serves, operand_of, row_causes, factor_causes, unit_causes, product_answer, inverse_answer}

-- what an inverse judges of W bytes after the lengths
abbrev pub unit_bytes : ℕ → List ℕ → List ℕ → List Cause
unit_bytes m t a = row_causes m t ++ (high_bit m a ∷ is_zero (bytes_for m) m a ∷ [])

-- a width that has passed, as the contracts have it
pub passed : {m : ℕ} → IsPassed m → IsWidth m
passed w = (w.least, w.greatest)

pub first-passed : (m : ℕ) (cs : List Cause) → judged (bad_width m ∷ cs) ≡ Ok tt → IsWidth m
first-passed m cs e = passed (is-width m (fine (bad_width m ∷ cs) e).0)

-- the bytes of a carried operand
abbrev pub HasCarriedBytes : List ℕ → Type 0
HasCarriedBytes x = (length x ≡ carried_bytes) × Bytes x

module _ {m : ℕ} (w : IsWidth m) (t : List ℕ) where
  width-fails : (bad_width m).test ≡ false
  width-fails = width-passes m (record { least = w.0; greatest = w.1 })

  -- the shape of a table whose width was judged before
  pub shape-after : {v : Verdict} → v ≡ judged (shape_causes m t) → v ≡ judged (row_causes m t)
  shape-after e = e ∙ head-fails (bad_width m) (row_causes m t) width-fails

  pub table-shaped : Bytes t → Fine (row_causes m t) → Shaped m t
  table-shaped small p = shape-rows (λ d l. row-bytes m d t small) (width-fails, p)

  -- rules 4 and 5 of a table whose shape was judged before
  pub rules-after : {v : Verdict} → Shaped m t → v ≡ judged (shape_causes m t ++ rule_causes m t) → v ≡ judged (rule_causes m t)
  rules-after s e = e ∙ goes_on (shape_causes m t) (rule_causes m t) (shape-none s)

  serves : (k : Method) → Shaped m t → Fine (rules_by k m t) → Serves k m t
  serves Plain s p = s
  serves Reduced s p = (s, (rules m t).0 p)

  -- carried bytes whose bits have passed
  sound : {x : List ℕ} → HasCarriedBytes x → (high_bit m x).test ≡ false → Sound m (operand_of m x)
  sound {x} h p =
      record { least = w.0; greatest = w.1; width = refl; operand = record { size = h.0; byte = h.1; clear = clear_at m x (is-clear m x p) } }

  -- factors that have passed, and an operand that has
  pub factors-fine : (k : Method) (x y : List ℕ) → Bytes t → HasCarriedBytes x → HasCarriedBytes y → judged (factor_causes k m t x y) ≡ Ok tt → Serves k m t × Sound m (operand_of m x) × Sound m (operand_of m y)
  factors-fine k x y small hx hy e =
      let p = fine (factor_causes k m t x y) e in
      (serves k (table-shaped small (p.0, (p.1.0, tt))) p.1.1.1.1, sound hx p.1.1.0, sound hy p.1.1.1.0)

  pub unit-fine : (x : List ℕ) → Bytes t → HasCarriedBytes x → judged (unit_causes m t x) ≡ Ok tt → Shaped m t × Sound m (operand_of m x)
  unit-fine x small h e =
      let p = fine (unit_causes m t x) e in
      (table-shaped small (p.0, (p.1.0, tt)), sound h p.1.1.0)

  -- the causes of carried bytes are those of the W bytes
  pub factors-same : (k : Method) {a b : List ℕ} → HasBytes m a → HasBytes m b → judged (factor_causes k m t (carried_by a) (carried_by b)) ≡ judged (factor_causes k m t a b)
  factors-same k {a} {b} h l =
      table_same _ _ (high_same h (high_bit m (carried_by b) ∷ rules_by k m t) (high_bit m b ∷ rules_by k m t) (λ q. high_same l (rules_by k m t) (rules_by k m t) (λ r. refl)))
    where
      table_same : (cs ds : List Cause) → judged cs ≡ judged ds → judged (not_table m t ∷ high_bit_in_row m t ∷ cs) ≡ judged (not_table m t ∷ high_bit_in_row m t ∷ ds)
      table_same cs ds e = same_head (not_table m t) (not_table m t) _ _ refl refl (λ p. same_head (high_bit_in_row m t) (high_bit_in_row m t) cs ds refl refl (λ q. e))

  zero_same : {a : List ℕ} → Bytes a → HasBytes m a → is_clear m a ≡ true → (is_zero carried_bytes m (carried_by a)).test ≡ (is_zero (bytes_for m) m a).test
  unfolding zeroes
  zero_same {a} small h c =
      ap (same (carried_by a)) (sym (carried_from {n = bytes_for m} short (omega arith) (λ i. 0))) ∙ same-carried short operand (from-operand (bytes_for m) m (λ i. 0))
    where
      short : bytes_for m ≤ carried_bytes
      short = omega (arith, w.1)

      operand : IsOperand (bytes_for m) m a
      operand = record { size = h.size; byte = small; clear = clear_at m a c }

  pub unit-same : {a : List ℕ} → Bytes a → HasBytes m a → judged (unit_causes m t (carried_by a)) ≡ judged (unit_bytes m t a)
  unit-same {a} small h =
      same_head (not_table m t) (not_table m t) _ _ refl refl (λ p. same_head (high_bit_in_row m t) (high_bit_in_row m t) _ _ refl refl (λ q.
      high_same h (is_zero carried_bytes m (carried_by a) ∷ []) (is_zero (bytes_for m) m a ∷ []) (λ c.
      same_head (is_zero carried_bytes m (carried_by a)) (is_zero (bytes_for m) m a) [] [] (zero_same small h c) refl (λ r. refl))))

-- the lengths of W bytes
abbrev pub size_causes : ℕ → List ℕ → List ℕ → List Cause
size_causes m a result = bad_width m ∷ not_w m a ∷ not_w m result ∷ []

abbrev pub pair_sizes : ℕ → List ℕ → List ℕ → List ℕ → List Cause
pair_sizes m a b result = bad_width m ∷ not_w m a ∷ not_w m b ∷ not_w m result ∷ []

abbrev pub pair_widths : ℕ → Operand → Operand → List Cause
pair_widths m a b = bad_width m ∷ bad_width a.width ∷ bad_width b.width ∷ bad_length b.width a.width ∷ bad_length a.width m ∷ []

abbrev pub one_width : ℕ → Operand → List Cause
one_width m a = bad_width m ∷ bad_width a.width ∷ bad_length a.width m ∷ []

-- the calls by a method: what they judge is the widths or the lengths, and then the factors
module _ (m : ℕ) (t : List ℕ) where
  pub causes-by : (k : Method) (a b : Operand) → judged (pair_widths m a b ++ factor_causes k m t a.bytes b.bytes) ≡ judged (method_causes k m t a b)
  causes-by Plain a b = refl
  causes-by Reduced a b = refl

  pub call-by : (k : Method) (a b : Operand) {r : Result Operand Fault} → r ≡ answer (judged (method_causes k m t a b)) m (multiplied k m t a.bytes b.bytes) → r ≡ multiply_call k m t a b
  call-by Plain a b e = e
  call-by Reduced a b e = e

  pub into-by : (k : Method) (a b old : List ℕ) {v : Verdict} {new : List ℕ}
      → (v ≡ judged (pair_sizes m a b old ++ factor_causes k m t a b)) × (new ≡ written (judged (pair_sizes m a b old ++ factor_causes k m t a b)) (multiplied k m t a b) old)
      → (v ≡ judged (method_bytes_causes k m t a b old)) × (new ≡ multiply_into k m t a b old)
  into-by Plain a b old h = h
  into-by Reduced a b old h = h

-- the product by a method, carried
module _ {m : ℕ} {a b : List ℕ} (h : HasBytes m a) (l : HasBytes m b) (t : List ℕ) where
  pub multiplied-carried : (k : Method) → multiplied k m t (carried_by a) (carried_by b) ≡ carried_by (multiplied k m t a b)
  multiplied-carried Plain = product-carried h l t
  multiplied-carried Reduced = reduced-carried h l t

  pub multiplied-is : (k : Method) → IsOperand (bytes_for m) m (multiplied k m t a b)
  multiplied-is Plain = product_is h l t
  multiplied-is Reduced = reduced-is h l t

-- zero is the operand with no bit at 0 or above
pub clear_zero : (w : ℕ) (x : List ℕ) → length x ≡ carried_bytes → Bytes x → is_clear 0 x ≡ same x (zeroes carried_bytes w)
unfolding zeroes
clear_zero w x size small = bool-ext _ _
    (λ e. (same-decides x _).1 (from-eq carried_bytes w (λ i. 0) (record { size = size; byte = small; clear = λ i l. clear_at 0 x e i (omega arith) }) (λ i l. clear_at 0 x e i (omega arith))))
    (λ e. clear_of 0 x (λ i l. ap (λ z. coord z i) ((same-decides x _).0 e ∙ sym (zero-bytes w)) ∙ coord-none carried_bytes i))

-- what is answered for the carried bytes is the answer for the W bytes: a product
module _ {m : ℕ} {a b old : List ℕ} (z : SizedPair m a b old) (t : List ℕ) (k : Method) {r : Result Operand Fault} (e : r ≡ product_answer k m t (carried_by a) (carried_by b)) where
  pub product-failed : {f : Fault} → r ≡ Err f → judged (factor_causes k m t a b) ≡ Err f
  product-failed q = sym (factors-same (passed z.width) t k z.left z.right) ∙ answer-failed (judged (factor_causes k m t (carried_by a) (carried_by b))) _ (sym e ∙ q)

  module _ {v : Operand} (q : r ≡ Ok v) where
    gave : (judged (factor_causes k m t (carried_by a) (carried_by b)) ≡ Ok tt) × (operand_of m (multiplied k m t (carried_by a) (carried_by b)) ≡ v)
    gave = answer-passed (judged (factor_causes k m t (carried_by a) (carried_by b))) (sym e ∙ q)

    pub product-passed : judged (factor_causes k m t a b) ≡ Ok tt
    product-passed = sym (factors-same (passed z.width) t k z.left z.right) ∙ gave.0

    pub product-written : {new : List ℕ} → new ≡ pack (length old) (coord v.bytes) → new ≡ multiplied k m t a b
    product-written n =
        let is = multiplied-is z.left z.right t k in
        n ∙ ap (λ y. pack (length old) (coord y)) (ap (λ (o : Operand). o.bytes) (sym gave.1) ∙ multiplied-carried z.left z.right t k)
        ∙ written-carried (has-bytes z.width.greatest is) is z.room

-- an inverse, and its count
module _ {m : ℕ} {a old : List ℕ} (z : Sized m a old) (byte : Bytes a) (t : List ℕ) {r : Result Inverted Fault} (e : r ≡ inverse_answer m t (carried_by a)) where
  pub inverse-failed : {f : Fault} → r ≡ Err f → judged (unit_bytes m t a) ≡ Err f
  inverse-failed q = sym (unit-same (passed z.width) t byte z.operand) ∙ answer-failed (judged (unit_causes m t (carried_by a))) _ (sym e ∙ q)

  module _ {v : Inverted} (q : r ≡ Ok v) where
    found : (judged (unit_causes m t (carried_by a)) ≡ Ok tt) × (counted m (inverse m t (carried_by a)) (products_made m t (carried_by a)) ≡ v)
    found = answer-passed (judged (unit_causes m t (carried_by a))) (sym e ∙ q)

    pub inverse-passed : judged (unit_bytes m t a) ≡ Ok tt
    inverse-passed = sym (unit-same (passed z.width) t byte z.operand) ∙ found.0

    pub inverse-counted : v.count ≡ products_made m t a
    inverse-counted = ap (λ (i : Inverted). i.count) (sym found.1) ∙ count-carried t z.operand

    pub inverse-written : {new : List ℕ} → new ≡ pack (length old) (coord v.value.bytes) → new ≡ inverse m t a
    inverse-written n =
        let is = inverse-is t z.operand in
        n ∙ ap (λ y. pack (length old) (coord y)) (ap (λ (i : Inverted). i.value.bytes) (sym found.1) ∙ inverse-carried t z.operand)
        ∙ written-carried (has-bytes z.width.greatest is) is z.room

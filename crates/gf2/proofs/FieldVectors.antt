-- The field of the operands of width m = p + 1 under a table, and that of the vectors under its rows.
-- triples, laws: rule 6, and all that a table is accepted by, say the same of bytes and of vectors.
-- from-unit, from_field, from-squares: what holds of vectors holds of operands; to-field, to-squares: and back.
use mathlib.Core.Path.{◌≡◌, sym, ◌∙◌, ap}
use mathlib.Core.Logic.{◌↔◌}
use mathlib.Core.List.{List}
use Prim.Native.Nat.{ℕ, suc, ◌*◌, ◌<◌, ◌≤◌}
use Rattle.gf2.specs.Operands.{bytes_for}
use Rattle.gf2.specs.Tables.{IsTable}
use Rattle.gf2.specs.Products.{product}
use Rattle.gf2.specs.Check.{Rule6, Accepted}
use Rattle.gf2.specs.Field.{Op, IsUnit, Field, Squares}
use Rattle.gf2.proofs.Index.{Ix, at, at-num, o}
use Rattle.gf2.proofs.Vector.{Vec, β}
use Rattle.gf2.proofs.VectorProduct.{◌·◌ as mul}
use Rattle.gf2.proofs.VectorField.{Laws, Field as Fieldᵛ, Squares as Squaresᵛ}
use Rattle.gf2.proofs.OperandVectors.{bytes_fit, vec, bytes, bytes-operand, operand-vec, zeroes-vec, bytes-inj, added-bytes, turned-bytes}
use Rattle.gf2.proofs.TableVectors.{rows, product-bytes, symmetric, rule6}

module _ (p : ℕ) (t : List ℕ) (is : IsTable (suc p) t) where
  abbrev W : ℕ
  W = bytes_for (suc p)

  abbrev T : Ix p → Vec p
  T = rows p t

  fits : suc p ≤ 8 * W
  fits = bytes_fit (suc p)

  op : (v : Vec p) → Op (suc p) (bytes p W v)
  op = bytes-operand p W

  infixl 70 ◌·◌
  abbrev ◌·◌ : Vec p → Vec p → Vec p
  a · b = mul T a b

  infixl 70 ◌∗◌
  abbrev ◌∗◌ : List ℕ → List ℕ → List ℕ
  a ∗ b = product (suc p) t a b

  triples : ((i j : ℕ) → i < suc p → j < suc p → Rule6 (suc p) t i j) ↔ ((i j : Ix p) → (β o · β i) · β j ≡ β o · (β i · β j))
  triples = (
    λ h i j. simp at-num at ((rule6 p t is i.num j.num i.below j.below).0 (h i.num j.num i.below j.below)),
    λ h i j li lj. (rule6 p t is i j li lj).1 (h (at i) (at j)),
  )

  pub laws : 1 < suc p → Accepted (suc p) t ↔ Laws T
  laws two = (
    λ k. record { symmetric = (symmetric p t is two).0 k.symmetric; rule6 = triples.0 k.rule6 },
    λ c. record { symmetric = (symmetric p t is two).1 c.symmetric; rule6 = triples.1 c.rule6 },
  )

  pub from-squares : Squaresᵛ T → Squares (suc p) t
  from-squares s = record { square = λ a ha. let h = fits in rw (operand-vec p ha) (simp (product-bytes, turned-bytes) (ap (bytes p W) (s (vec p a)))) }

  pub to-squares : Squares (suc p) t → Squaresᵛ T
  to-squares s v = let h = fits in bytes-inj p W fits _ _ (simp (product-bytes, turned-bytes) at (s.square _ (op v)))

  pub from-unit : (f : Fieldᵛ T) → IsUnit (suc p) t (bytes p W f.unit)
  from-unit f = record {
    operand = op f.unit;
    neutral = λ a ha. let h = fits in rw (operand-vec p ha) (simp product-bytes (ap (bytes p W) (f.neutral (vec p a))));
    inverse = λ a ha n. let i = f.inverse (vec p a) (λ z. n (operand-vec p ha ∙ ap (bytes p W) z ∙ sym (zeroes-vec p W))) in
        (bytes p W i.0, op i.0, ap (λ x. x ∗ bytes p W i.0) (operand-vec p ha) ∙ product-bytes p t is W fits _ _ ∙ ap (bytes p W) i.1);
  }

  pub from_field : Fieldᵛ T → Field (suc p) t
  from_field f = record {
    commutative = λ a b ha hb. let h = fits in rw (operand-vec p ha, operand-vec p hb) (simp product-bytes (ap (bytes p W) (f.comm (vec p a) (vec p b))));
    associative = λ a b c ha hb hc. let h = fits in
        rw (operand-vec p ha, operand-vec p hb, operand-vec p hc) (simp product-bytes (ap (bytes p W) (f.assoc (vec p a) (vec p b) (vec p c))));
    distributive = λ a b c ha hb hc. let h = fits in
        rw (operand-vec p ha, operand-vec p hb, operand-vec p hc)
        (simp (product-bytes, added-bytes) (ap (bytes p W) (f.distrib (vec p a) (vec p b) (vec p c))));
    unit = (bytes p W f.unit, from-unit f);
  }

  pub to-field : Field (suc p) t → Fieldᵛ T
  to-field f = record {
    comm = λ v w. let h = fits in bytes-inj p W fits _ _ (simp product-bytes at (f.commutative _ _ (op v) (op w)));
    assoc = λ u v w. let h = fits in bytes-inj p W fits _ _ (simp product-bytes at (f.associative _ _ _ (op u) (op v) (op w)));
    distrib = λ u v w. let h = fits in bytes-inj p W fits _ _ (simp (product-bytes, added-bytes) at (f.distributive _ _ _ (op u) (op v) (op w)));
    unit = vec p e;
    neutral = λ v. bytes-inj p W fits _ _
        (sym (product-bytes p t is W fits (vec p e) v) ∙ ap (λ x. x ∗ bytes p W v) (sym e-vec) ∙ f.unit.1.neutral _ (op v));
    inverse = λ v n. let i = f.unit.1.inverse _ (op v) (λ z. n (bytes-inj p W fits _ _ (z ∙ zeroes-vec p W))) in (
      vec p i.0,
      bytes-inj p W fits _ _
          (sym (product-bytes p t is W fits v (vec p i.0)) ∙ ap (λ x. bytes p W v ∗ x) (sym (operand-vec p i.1)) ∙ i.2 ∙ e-vec),
    );
  }
    where
      e : List ℕ
      e = f.unit.0

      e-vec : e ≡ bytes p W (vec p e)
      e-vec = operand-vec p f.unit.1.operand

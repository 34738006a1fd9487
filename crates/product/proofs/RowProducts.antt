-- The product by a method, by the places of the ones in the method's rows: the plain one by all rows, their pairs one way round,
-- the reduced one by rows 1 .. m/2, both ways round, but at distance m/2 one way, since the other gives the same pairs.
use mathlib.Core.Path.{◌≡◌, refl, sym, ap, ap₂, fun_ext, ◌∙◌}
use mathlib.Core.Bool.{Bool, true, false, ◌&&◌}
use mathlib.Core.List.{List}
use Prim.Native.Nat.{ℕ, zero, suc, ◌+◌, ◌*◌, ◌/◌, ◌%◌, ◌<◌}
use native.Mathlib.Nat.{add-zero, zero-add}
use native.Mathlib.Omega.{arith}
use lib.ListN.{length}
use borrow.Author.Tests.{eq-eqb, ne_eqb}
use Rattle.gf2.specs.Sums.{sum}
use Rattle.gf2.specs.Coordinates.{coord}
use Rattle.gf2.specs.Operands.{carried_bytes, minus, choose, from_coords}
use Rattle.gf2.specs.Tables.{row}
use Rattle.product.specs.Calls.{multiplied}
use Rattle.product.specs.Inner.{Serves, is_one_way}
use Rattle.scatter.specs.Methods.{first_row, row_count}
use Rattle.scatter.specs.declared.methods.Method.{Method}
use Rattle.scatter.specs.declared.methods.Method.TheVariants.{Plain, Reduced}
use Rattle.product.proofs.KernelLaws.{met_bytes}
use Rattle.gf2.proofs.Monoid.{big, big-ext}
use Rattle.gf2.proofs.Parity.{◌⊕◌, bits, xor-zero, odd, odd-add, odd-mul, odd-sum, odd-true, bit, bit-odd}
use Rattle.gf2.proofs.Index.{Ix, at, ◌⊹◌, ◌⊖◌, num-at, at-num, at-add, at-mod, num-minus}
use Rattle.gf2.proofs.IndexSums.{Σ-ext, odd-Σ}
use Rattle.gf2.proofs.Vector.{Vec, turn, add, lin}
use Rattle.gf2.proofs.VectorProduct.{◌·◌ as mul, Symmetric as Symmetricᵛ}
use Rattle.gf2.proofs.VectorForms.{apart, across, scatter, mul-scatter, mul-halves}
use Rattle.gf2.proofs.OperandVectors.{vec, bytes, from_vec}
use Rattle.gf2.proofs.TableVectors.{rows, product-vec, reduced-vec, symmetric}

-- coordinate i of what a method adds to its rows
abbrev pub diagonal_bytes : Method → ℕ → List ℕ → List ℕ → ℕ → ℕ
diagonal_bytes Plain m a b i = 0
diagonal_bytes Reduced m a b i = coord a (minus m i 1) * coord b (minus m i 1)

-- coordinate i of what row d adds, and of all
abbrev pub row_at : Method → ℕ → List ℕ → List ℕ → List ℕ → ℕ → ℕ → ℕ
row_at how m t a b i d = sum m (λ s. coord (row m t d) s * met_bytes how m d a b (minus m i s))

abbrev pub rows_at : Method → ℕ → List ℕ → List ℕ → List ℕ → ℕ → ℕ
rows_at how m t a b i = diagonal_bytes how m a b i + sum (row_count how m) (λ k. row_at how m t a b i (first_row how + k))

module _ (p : ℕ) where
  abbrev m : ℕ
  m = suc p

  -- the product of the pair i, i + d
  abbrev one_way : ℕ → List ℕ → List ℕ → ℕ → ℕ
  one_way d a b i = coord a i * coord b ((i + d) % m)

  num-sum : (x d : Ix p) → (x.num + d.num) % m ≡ (x ⊹ d).num
  num-sum x d = sym (at-mod p (x.num + d.num)) ∙ ap (λ (z : Ix p). z.num) (sym (at-add x.num d.num) ∙ ap₂ ◌⊹◌ (at-num x) (at-num d))

  one-odd : (a b : List ℕ) (d x : Ix p) → odd (one_way d.num a b x.num) ≡ apart d (vec p a) (vec p b) x
  unfolding apart vec
  one-odd a b d x = odd-mul _ _ ∙ ap (λ k. odd (coord a x.num) && odd (coord b k)) (num-sum x d)

  module _ (t a b : List ℕ) where
    abbrev T : Ix p → Vec p
    T = rows p t

    spread-odd : (d r : Ix p) (f : ℕ → ℕ) → odd (sum m (λ s. coord (row m t d.num) s * f (minus m r.num s))) ≡ scatter T d (λ x. odd (f x.num)) r
    unfolding scatter lin turn rows vec
    spread-odd d r f = odd-Σ p _ ∙ Σ-ext bits (λ s. odd-mul _ _ ∙ ap (λ z. odd (coord (row m t d.num) s.num) && z)
        (ap (λ k. odd (f k)) (num-minus r s.num ∙ ap (λ (z : Ix p). (r ⊖ z).num) (at-num s))))

    -- what row d adds, where its pairs are met one way and where both ways
    module _ (how : Method) (d : ℕ) (l : d < m) (r : Ix p) where
      abbrev n : ℕ
      n = (at {p = p} d).num

      row-odd : (v : Vec p) {once : Bool} → is_one_way how m d ≡ once → ((x : Ix p) → odd (one_way n a b x.num + choose once 0 (one_way n b a x.num)) ≡ v x) → odd (row_at how m t a b r.num d) ≡ scatter T (at d) v r
      row-odd v e h =
          ap (λ k. odd (row_at how m t a b r.num k)) (sym (num-at {p = p} d l)) ∙ spread-odd (at d) r (met_bytes how m n a b) ∙ ap (λ u. scatter T (at d) u r)
          (fun_ext (λ x. ap (λ k. odd (one_way n a b x.num + choose k 0 (one_way n b a x.num))) (ap (is_one_way how m) (num-at {p = p} d l) ∙ e) ∙ h x))

      row-once : is_one_way how m d ≡ true → odd (row_at how m t a b r.num d) ≡ scatter T (at d) (apart (at d) (vec p a) (vec p b)) r
      row-once e = row-odd _ e (λ x. ap odd (add-zero _) ∙ one-odd a b (at d) x)

      row-both : is_one_way how m d ≡ false → odd (row_at how m t a b r.num d) ≡ scatter T (at d) (across (at d) (vec p a) (vec p b)) r
      unfolding across add
      row-both e = row-odd _ e (λ x. odd-add _ _ ∙ ap₂ ◌⊕◌ (one-odd a b (at d) x) (one-odd b a (at d) x))

    plain-odd : (r : Ix p) → odd (rows_at Plain m t a b r.num) ≡ mul T (vec p a) (vec p b) r
    plain-odd r =
        ap odd (zero-add _) ∙ odd-Σ p _ ∙ Σ-ext bits (λ d. ap (λ k. odd (row_at Plain m t a b r.num k)) (zero-add d.num) ∙ row-once Plain d.num d.below r refl
        ∙ ap (λ z. scatter T z (apart z (vec p a) (vec p b)) r) (at-num d)) ∙ sym (ap (λ f. f r) (mul-scatter T (vec p a) (vec p b)) ∙ (unfold lin in refl))

    halves : (r : Ix p) (v : Bool) → odd p ≡ v → big bits (m / 2) (λ k. odd (row_at Reduced m t a b r.num (suc k)))
        ≡ big bits (p / 2) (λ d. scatter T (at (suc d)) (across (at (suc d)) (vec p a) (vec p b)) r) ⊕ (v && scatter T (at (m / 2)) (apart (at (m / 2)) (vec p a) (vec p b)) r)
    halves r = go
      where
        whole : big bits (p / 2) (λ k. odd (row_at Reduced m t a b r.num (suc k))) ≡ big bits (p / 2) (λ d. scatter T (at (suc d)) (across (at (suc d)) (vec p a) (vec p b)) r)
        whole = big-ext bits (p / 2) _ _ (λ k l. row-both Reduced (suc k) (omega arith) r (ne_eqb (2 * suc k) m (λ e. omega arith)))

        go : (v : Bool) → odd p ≡ v → big bits (m / 2) (λ k. odd (row_at Reduced m t a b r.num (suc k)))
            ≡ big bits (p / 2) (λ d. scatter T (at (suc d)) (across (at (suc d)) (vec p a) (vec p b)) r) ⊕ (v && scatter T (at (m / 2)) (apart (at (m / 2)) (vec p a) (vec p b)) r)
        go true e =
            let q = odd-true p e in
            let half : m / 2 ≡ suc (p / 2) = omega arith in
            rw half (unfold big in ap₂ ◌⊕◌ whole (row-once Reduced (suc (p / 2)) (omega arith) r (eq-eqb (2 * suc (p / 2)) m (omega arith))))
        go false e =
            let q : p % 2 ≡ 0 = sym (bit-odd p) ∙ ap bit e in
            let half : m / 2 ≡ p / 2 = omega arith in
            ap (λ n. big bits n (λ k. odd (row_at Reduced m t a b r.num (suc k)))) half ∙ whole ∙ sym (xor-zero _)

    reduced-odd : Symmetricᵛ T → (r : Ix p) → odd (rows_at Reduced m t a b r.num) ≡ mul T (vec p a) (vec p b) r
    unfolding vec
    reduced-odd s r =
        odd-add _ _ ∙ ap₂ ◌⊕◌ (odd-mul _ _ ∙ ap (λ k. odd (coord a k) && odd (coord b k)) (num-minus r 1))
        (odd-sum (m / 2) _ ∙ big-ext bits (m / 2) _ _ (λ k l. ap (λ d. odd (row_at Reduced m t a b r.num d)) (omega arith)) ∙ halves r (odd p) refl)
        ∙ sym (mul-halves T s (vec p a) (vec p b) r)

pub by_rows : (how : Method) (m : ℕ) (t a b : List ℕ) → Serves how m t → length a ≡ carried_bytes → from_coords carried_bytes m (rows_at how m t a b) ≡ multiplied how m t a b
by_rows Plain zero t a b s e = absurd (omega (arith, s.least))
by_rows Reduced zero t a b s e = absurd (omega (arith, s.0.least))
by_rows Plain (suc p) t a b s e =
    from_vec p carried_bytes _ _ (plain-odd p t a b) ∙ sym (product-vec p t s.is_table a b ∙ ap (λ n. bytes p n (mul (rows p t) (vec p a) (vec p b))) e)
by_rows Reduced (suc p) t a b s e =
    let v = (symmetric p t s.0.is_table s.0.least).0 s.1 in
    from_vec p carried_bytes _ _ (reduced-odd p t a b v) ∙ sym (reduced-vec p t s.0.is_table v a b ∙ ap (λ n. bytes p n (mul (rows p t) (vec p a) (vec p b))) e)

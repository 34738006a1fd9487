-- Operands of W bytes and the same operands carried.
-- Coordinates: carrying keeps them. Made: operands given by coordinates, and what is compared.
-- Every operation is given by coordinates: carried operands give the carried result. HasBytes is what that asks of an operand.
use mathlib.Core.Path.{◌≡◌, refl, sym, ap, ap₂, ◌∙◌, fun_ext}
use mathlib.Core.List.{List}
use Prim.Native.Nat.{ℕ, zero, suc, ◌+◌, ◌-◌, ◌*◌, ◌/◌, ◌%◌, ◌^◌, ◌≤◌}
use native.Mathlib.Decide.{dec_lt}
use native.Mathlib.Nat.{mod-eq_of_lt}
use native.Mathlib.Omega.{arith}
use lib.ListN.{length}
use Rattle.gf2.specs.Sums.{sum}
use Rattle.gf2.specs.Coordinates.{coord, pack}
use Rattle.gf2.specs.Operands.{max_width, bytes_for, carried_bytes, minus, IsOperand, from_coords, is_clear, same, carried_by, added, turned}
use Rattle.gf2.specs.Quadratic.{root_coord, root}
use Rattle.gf2.specs.Tables.{pair_product}
use Rattle.gf2.specs.Products.{product, reduced}
use Rattle.gf2.specs.Inverse.{log2, Chain, start, doubling, adding, digits, chain, inverse, products_made}
use Rattle.gf2.proofs.Parity.{bool-ext}
use Rattle.gf2.proofs.Coordinates.{coord-lt, coord-past, coord-pack, pack-eq, pack-byte, length-pack}
use Rattle.gf2.proofs.Operands.{coord-from, length_from, from-operand, from-eq, operand-ext, clear_at, clear_of}
use Rattle.gf2.proofs.Decisions.{same-both}

-- the coordinates of a list, in n bytes that are enough for them
pub coord-repacked : (n : ℕ) (s : List ℕ) → ((i : ℕ) → 8 * n ≤ i → coord s i ≡ 0) → (i : ℕ) → coord (pack n (coord s)) i ≡ coord s i
coord-repacked n s h i = elim (dec_lt i (8 * n)) [
  | yes l ↦ coord-pack n (coord s) i l ∙ mod-eq_of_lt (coord-lt s i)
  | no l ↦ coord-past (pack n (coord s)) i (omega (arith, length-pack n (coord s))) ∙ sym (h i (omega arith))
]

-- the same of a list that isn't longer
pub coord-carried : (n : ℕ) (s : List ℕ) → length s ≤ n → (i : ℕ) → coord (pack n (coord s)) i ≡ coord s i
coord-carried n s h = coord-repacked n s (λ i l. coord-past s i (omega arith))

clear-ext : (m : ℕ) (a b : List ℕ) → ((i : ℕ) → coord a i ≡ coord b i) → is_clear m a ≡ is_clear m b
clear-ext m a b e = bool-ext _ _ (λ q. clear_of m b (λ i h. sym (e i) ∙ clear_at m a q i h)) (λ q. clear_of m a (λ i h. e i ∙ clear_at m b q i h))

module _ {n m : ℕ} (short : n ≤ carried_bytes) where
  pub carried-operand : {x : List ℕ} → IsOperand n m x → IsOperand carried_bytes m (carried_by x)
  carried-operand {x} o = record {
    size = length-pack carried_bytes (coord x);
    byte = pack-byte carried_bytes (coord x);
    clear = λ i l. coord-carried carried_bytes x (rw o.size short) i ∙ o.clear i l;
  }

  pub carried_from : m ≤ 8 * n → (f : ℕ → ℕ) → carried_by (from_coords n m f) ≡ from_coords carried_bytes m f
  carried_from fits f = from-eq carried_bytes m f (carried-operand (from-operand n m f)) (λ i l.
      coord-carried carried_bytes (from_coords n m f) (rw length_from short) i ∙ coord-from n m f fits i l)

  pub carried-inj : {a b : List ℕ} → IsOperand n m a → IsOperand n m b → carried_by a ≡ carried_by b → a ≡ b
  carried-inj {a} {b} oa ob e = operand-ext oa ob (λ i l.
      sym (coord-carried carried_bytes a (rw oa.size short) i) ∙ ap (λ x. coord x i) e ∙ coord-carried carried_bytes b (rw ob.size short) i)

  pub same-carried : {a b : List ℕ} → IsOperand n m a → IsOperand n m b → same (carried_by a) (carried_by b) ≡ same a b
  same-carried {a} {b} oa ob = same-both _ _ _ _ (carried-inj oa ob) (ap carried_by)

-- W bytes of a width that has passed
pub record HasBytes (m : ℕ) (a : List ℕ) : Type 0 where
  pub greatest : m ≤ max_width
  pub size : length a ≡ bytes_for m

module _ {m : ℕ} {a : List ℕ} (h : HasBytes m a) where
  pub same-coord : coord (carried_by a) ≡ coord a
  same-coord = fun_ext (coord-carried carried_bytes a (omega (arith, h.greatest, h.size)))

  pub made-operand : (f : ℕ → ℕ) → IsOperand (bytes_for m) m (from_coords (length a) m f)
  made-operand f = rw h.size (from-operand (bytes_for m) m f)

  pub clear-carried : is_clear m (carried_by a) ≡ is_clear m a
  clear-carried = clear-ext m (carried_by a) a (coord-carried carried_bytes a (omega (arith, h.greatest, h.size)))

  -- an operand is written as its W bytes
  pub written-carried : IsOperand (bytes_for m) m a → {n : ℕ} → n ≡ bytes_for m → pack n (coord (carried_by a)) ≡ a
  written-carried o e = rw e (sym (pack-eq (bytes_for m) (coord (carried_by a)) a o.size o.byte (λ i l. sym (ap (λ f. f i % 2) same-coord ∙ mod-eq_of_lt (coord-lt a i)))))

-- an operation F on the coordinates of two operands
pub made-carried : {m : ℕ} {a b : List ℕ} → HasBytes m a → HasBytes m b → (F : (ℕ → ℕ) → (ℕ → ℕ) → ℕ → ℕ) →
    from_coords (length (carried_by a)) m (F (coord (carried_by a)) (coord (carried_by b))) ≡ carried_by (from_coords (length a) m (F (coord a) (coord b)))
made-carried {m} {a} {b} h k F =
    ap (λ n. from_coords n m (F (coord (carried_by a)) (coord (carried_by b)))) (length-pack carried_bytes (coord a))
    ∙ ap₂ (λ f g. from_coords carried_bytes m (F f g)) (same-coord h) (same-coord k)
    ∙ sym (ap (λ n. carried_by (from_coords n m (F (coord a) (coord b)))) h.size
    ∙ carried_from {n = bytes_for m} (omega (arith, h.greatest)) (omega arith) (F (coord a) (coord b)))

-- the solution's coordinates are made from those of c
solved : (ℕ → ℕ) → ℕ → ℕ
solved f zero = 0
solved f (suc i) = (solved f i + f (suc i)) % 2

by-coord : (c : List ℕ) (i : ℕ) → root_coord c i ≡ solved (coord c) i
unfolding root_coord solved
by-coord c zero = refl
by-coord c (suc i) = ap (λ x. (x + coord c (suc i)) % 2) (by-coord c i)

module _ {m : ℕ} {a : List ℕ} (h : HasBytes m a) where
  pub turned-carried : (k : ℕ) → turned m k (carried_by a) ≡ carried_by (turned m k a)
  unfolding turned
  turned-carried k = made-carried h h (λ f g i. f (minus m i k))

  pub turned-is : (k : ℕ) → IsOperand (bytes_for m) m (turned m k a)
  unfolding turned
  turned-is k = made-operand h _

  pub root-carried : root m (carried_by a) ≡ carried_by (root m a)
  unfolding root
  root-carried = ap (from_coords (length (carried_by a)) m) (fun_ext (by-coord (carried_by a)))
      ∙ made-carried h h (λ f g. solved f) ∙ sym (ap (λ f. carried_by (from_coords (length a) m f)) (fun_ext (by-coord a)))

  pub root_is : IsOperand (bytes_for m) m (root m a)
  unfolding root
  root_is = made-operand h _

  module _ {b : List ℕ} (k : HasBytes m b) where
    pub added-carried : added m (carried_by a) (carried_by b) ≡ carried_by (added m a b)
    unfolding added
    added-carried = made-carried h k (λ f g i. f i + g i)

    pub added_is : IsOperand (bytes_for m) m (added m a b)
    unfolding added
    added_is = made-operand h _

    module _ (t : List ℕ) where
      pub product-carried : product m t (carried_by a) (carried_by b) ≡ carried_by (product m t a b)
      unfolding product
      product-carried = made-carried h k (λ f g r. sum m (λ i. sum m (λ j. f i * g j * coord (pair_product m t i j) r)))

      pub product_is : IsOperand (bytes_for m) m (product m t a b)
      unfolding product
      product_is = made-operand h _

      pub reduced-carried : reduced m t (carried_by a) (carried_by b) ≡ carried_by (reduced m t a b)
      unfolding reduced
      reduced-carried = made-carried h k (λ f g r.
          f (minus m r 1) * g (minus m r 1) + sum m (λ j. sum j (λ i. (f i * g j + f j * g i) * coord (pair_product m t i j) r)))

      pub reduced-is : IsOperand (bytes_for m) m (reduced m t a b)
      unfolding reduced
      reduced-is = made-operand h _

pub has-bytes : {m : ℕ} {z : List ℕ} → m ≤ max_width → IsOperand (bytes_for m) m z → HasBytes m z
has-bytes w o = record { greatest = w; size = o.size }

-- the inverse's chain, step by step
module _ {m : ℕ} (t : List ℕ) {a : List ℕ} (h : HasBytes m a) where
  abbrev carried_chain : Chain → Chain
  carried_chain s = record { t = carried_by s.t; k = s.k; count = s.count }

  -- the product of an operand turned, as the chain makes it
  turned-times : (k : ℕ) {x y : List ℕ} → HasBytes m x → HasBytes m y → product m t (turned m k (carried_by x)) (carried_by y) ≡ carried_by (product m t (turned m k x) y)
  turned-times k {x} {y} hx hy =
      ap (λ z. product m t z (carried_by y)) (turned-carried hx k) ∙ product-carried (has-bytes h.greatest (turned-is hx k)) hy t

  times-bytes : (k : ℕ) {x y : List ℕ} → HasBytes m x → HasBytes m y → HasBytes m (product m t (turned m k x) y)
  times-bytes k hx hy = has-bytes h.greatest (product_is (has-bytes h.greatest (turned-is hx k)) hy t)

  doubling-carried : (s : Chain) → HasBytes m s.t → doubling m t (carried_chain s) ≡ carried_chain (doubling m t s)
  unfolding doubling
  doubling-carried s q = ap (λ x. record { t = x; k = 2 * s.k; count = s.count + 1 }) (turned-times s.k q q)

  doubling-bytes : (s : Chain) → HasBytes m s.t → HasBytes m (doubling m t s).t
  unfolding doubling
  doubling-bytes s q = times-bytes s.k q q

  adding-carried : (d : ℕ) (s : Chain) → HasBytes m s.t → adding m t (carried_by a) d (carried_chain s) ≡ carried_chain (adding m t a d s)
  unfolding adding
  adding-carried zero s q = refl
  adding-carried (suc d) s q = ap (λ x. record { t = x; k = s.k + 1; count = s.count + 1 }) (turned-times 1 q h)

  adding-bytes : (d : ℕ) (s : Chain) → HasBytes m s.t → HasBytes m (adding m t a d s).t
  unfolding adding
  adding-bytes zero s q = q
  adding-bytes (suc d) s q = times-bytes 1 q h

  digits-carried : (n unread : ℕ) (s : Chain) → HasBytes m s.t → digits m t (carried_by a) n unread (carried_chain s) ≡ carried_chain (digits m t a n unread s)
  unfolding digits
  digits-carried n zero s q = refl
  digits-carried n (suc u) s q =
      let d = doubling-bytes s q in
      ap (digits m t (carried_by a) n u)
      (ap (adding m t (carried_by a) (n / 2 ^ u % 2)) (doubling-carried s q) ∙ adding-carried (n / 2 ^ u % 2) (doubling m t s) d)
      ∙ digits-carried n u _ (adding-bytes (n / 2 ^ u % 2) _ d)

  digits-bytes : (n unread : ℕ) (s : Chain) → HasBytes m s.t → HasBytes m (digits m t a n unread s).t
  unfolding digits
  digits-bytes n zero s q = q
  digits-bytes n (suc u) s q = digits-bytes n u _ (adding-bytes (n / 2 ^ u % 2) _ (doubling-bytes s q))

  last : HasBytes m (chain m t a).t
  last = digits-bytes (m - 1) (log2 (m - 1)) (start a) h

  chain-carried : chain m t (carried_by a) ≡ carried_chain (chain m t a)
  chain-carried = digits-carried (m - 1) (log2 (m - 1)) (start a) h

  pub inverse-carried : inverse m t (carried_by a) ≡ carried_by (inverse m t a)
  unfolding inverse
  inverse-carried = ap (λ (s : Chain). turned m 1 s.t) chain-carried ∙ turned-carried last 1

  pub inverse-is : IsOperand (bytes_for m) m (inverse m t a)
  unfolding inverse
  inverse-is = turned-is last 1

  pub count-carried : products_made m t (carried_by a) ≡ products_made m t a
  unfolding products_made
  count-carried = ap (λ (s : Chain). s.count) chain-carried

-- A table's rules are those of a field whose squaring is a turn.
-- Rules 4, 5 and 6 (Laws); Field and Squares; document 01's rule 7.
-- rule6-first: under rules 4 and 5, rule 6 for i = 0 is rule 6.
-- t k a: the power of a with exponent 2^k - 1, by the chain of Itoh and Tsujii; t-add: one law for doubling and adding.
-- t-all, rule7: 4, 5 and 6 imply 7; laws-field: Laws and Field with Squares imply each other.
-- unique-inverse: in a field b is determined by a·b = one; rows-differ, rows-span: in a field no two rows are equal, and the rows span all vectors.
use mathlib.Core.Path.{◌≡◌, refl, sym, ◌∙◌, ap, fun_ext}
use mathlib.Core.Logic.{◌↔◌}
use mathlib.Core.Bool.{true≢false}
use Prim.Native.Nat.{ℕ, zero, suc, ◌+◌, ◌-◌, ◌^◌}
use native.Mathlib.Nat.{add-zero, zero-add, suc-add, add-suc}
use native.Mathlib.Omega.{arith}
use lib.Pow.{pow_pos}
use Rattle.gf2.proofs.Parity.{bits}
use Rattle.gf2.proofs.Index.{Ix, at, at-num, at_suc, o, ◌⊖◌, z-add, sub-add, sub_self}
use Rattle.gf2.proofs.IndexSums.{Σ}
use Rattle.gf2.proofs.Vector.{Vec, turn, β, ones, zeros, add, lin, lin-β, lin-basis, lin-lin, lin-swap, turn-β, turn-z, turn-swap, turn_suc, turn-all, turn-ones, all_same, β≢zeros, β-eq, β-refl}
use Rattle.gf2.proofs.VectorProduct.{◌·◌ as mul, pair, mul-lin, mul-comb, mul-add, zeros-mul, turn-mul, mul-β, mul-ββ, mul-o, pair-o, Symmetric, mul_comm, mul-square}

module _ {p : ℕ} (T : Ix p → Vec p) where
  infixl 70 ◌·◌
  abbrev ◌·◌ : Vec p → Vec p → Vec p
  a · b = mul T a b

  -- rules 4, 5 and 6
  pub record Laws : Type 0 where
    pub symmetric : Symmetric T
    pub rule6 : (i j : Ix p) → (β o · β i) · β j ≡ β o · (β i · β j)

  -- the sum of all rows has only coordinate 0
  abbrev pub Rule7 : Type 0
  Rule7 = (r : Ix p) → Σ bits (λ d. T d r) ≡ β o r

  pub record Field : Type 0 where
    pub comm : (a b : Vec p) → a · b ≡ b · a
    pub assoc : (a b c : Vec p) → (a · b) · c ≡ a · (b · c)
    pub distrib : (a b c : Vec p) → a · add b c ≡ add (a · b) (a · c)
    pub unit : Vec p
    pub neutral : (a : Vec p) → unit · a ≡ a
    pub inverse : (a : Vec p) → ¬ (a ≡ zeros) → (b : Vec p) × (a · b ≡ unit)

  abbrev pub Squares : Type 0
  Squares = (a : Vec p) → a · a ≡ turn (at 1) a

  β-from : (i j : Ix p) → β j ≡ turn i (β (j ⊖ i))
  β-from i j = simp (turn-β, sub-add)

  -- rule 6 for i = 0 says that β1 acts as β0 twice, and by turns β(k+1) as βk twice: so each acts as a power of β0
  module _ (s : Symmetric T) (first : (j : Ix p) → (β o · β o) · β j ≡ β o · (β o · β j)) where
    twice-β : (k j : Ix p) → (β k · β k) · β j ≡ β k · (β k · β j)
    twice-β k j = rw (β-from k j, β-from k k) (simp (sub_self, ← turn-mul) (ap (turn k) (first (j ⊖ k))))

    twice : (k : ℕ) (x : Vec p) → β (at (suc k)) · x ≡ β (at k) · (β (at k) · x)
    twice k x = rw (← lin-basis x) (simp (mul-comb, ← at_suc, ← turn-β, ← mul-square T s, twice-β))

    commute : (k : ℕ) (x : Vec p) → β o · (β (at k) · x) ≡ β (at k) · (β o · x)
    commute zero x = refl
    commute (suc k) x = rw (twice k x, commute k (β (at k) · x), commute k x) (sym (twice k (β o · x)))

    pub rule6-first : (i j : Ix p) → (β o · β i) · β j ≡ β o · (β i · β j)
    rule6-first i j = mul_comm T s _ (β j) ∙ rw (← at-num j) (sym (commute j.num (β i)) ∙ ap (λ x. β o · x) (mul_comm T s _ (β i)))

  -- a · b = one has one solution b at most
  module _ (f : Field) where
    pub unique-inverse : (a b c : Vec p) → a · b ≡ f.unit → a · c ≡ f.unit → b ≡ c
    unique-inverse a b c hb hc =
        sym (f.neutral b) ∙ ap (λ u. u · b) (sym hc ∙ f.comm a c) ∙ f.assoc c a b ∙ ap (λ u. c · u) hb ∙ f.comm c f.unit ∙ f.neutral c

    inv : (b : Vec p) × (β o · b ≡ f.unit)
    inv = f.inverse (β o) (β≢zeros o)

    -- the rows span all vectors
    pub rows-span : (x : Vec p) → (y : Vec p) × (lin y T ≡ x)
    rows-span x = (inv.0 · x, sym (mul-o T _) ∙ sym (f.assoc (β o) inv.0 x) ∙ ap (λ u. u · x) inv.1 ∙ f.neutral x)

    pub rows-differ : (d e : Ix p) → T d ≡ T e → d ≡ e
    rows-differ d e h = β-eq d e (ap (λ f. f e) (sym back) ∙ β-refl e)
      where
        from : (x : Ix p) → β x ≡ inv.0 · T x
        from x = sym (f.neutral (β x)) ∙ ap (λ u. u · β x) (sym inv.1 ∙ f.comm (β o) inv.0) ∙ f.assoc inv.0 (β o) (β x)
            ∙ ap (λ u. inv.0 · u) (mul-ββ T o x ∙ pair-o T x)

        back : β e ≡ β d
        back = from e ∙ ap (λ u. inv.0 · u) (sym h) ∙ sym (from d)

  -- the power of exponent 2 ^ k - 1
  unfoldable pub t : ℕ → Vec p → Vec p
  t zero a = ones
  t (suc zero) a = a
  t (suc (suc k)) a = turn (at 1) (t (suc k) a) · a

  unfoldable pub pow : ℕ → Vec p → Vec p
  pow zero a = ones
  pow (suc n) a = pow n a · a

  pub t-one : (a : Vec p) → t 1 a ≡ a
  unfolding t
  t-one a = refl

  module _ (c : Laws) where
    comm : (a b : Vec p) → a · b ≡ b · a
    comm = mul_comm T c.symmetric

    square : Squares
    square = mul-square T c.symmetric

    assoc-β : (i j l : Ix p) → (β i · β j) · β l ≡ β i · (β j · β l)
    assoc-β i j l = rw (β-from i j, β-from i l, β-from i i) (simp (sub_self, ← turn-mul) (ap (turn i) (c.rule6 (j ⊖ i) (l ⊖ i))))

    pub mul_assoc : (a b d : Vec p) → (a · b) · d ≡ a · (b · d)
    mul_assoc a b d = simp (mul-lin, lin-lin)
        (ap (lin a) (fun_ext (λ i. ap (lin b) (fun_ext (λ j.
        lin-swap (pair T i j) d (pair T) ∙ ap (lin d) (fun_ext (λ l. simp (mul-lin, lin-β) at (assoc-β i j l))))))))

    t-mul : (k : ℕ) (a : Vec p) → t (suc k) a · a ≡ turn (at (suc k)) a
    unfolding t
    t-mul zero a = square a
    t-mul (suc k) a = rw (mul_assoc, square a, ← turn-mul, t-mul k a) (turn_suc (suc k) a)

    -- what k + 1 turns leave as it is has an idempotent that keeps it
    t-idem : (k : ℕ) (a : Vec p) → turn (at (suc k)) a ≡ a → t (suc k) a · t (suc k) a ≡ t (suc k) a
    unfolding t
    t-idem zero a e = square a ∙ e
    t-idem (suc k) a e = mul_assoc _ a _ ∙ ap (λ z. turn (at 1) (t (suc k) a) · z) (comm a _ ∙ t-mul (suc k) a ∙ e)

    -- "some power of β is equal to its own square, not zero, and fixed by the turn, so it is one": that of exponent 2^m - 1, and not of β
    -- alone but of any a but zero
    module _ (a : Vec p) (n : ¬ (a ≡ zeros)) where
      own_square : t (suc p) a · t (suc p) a ≡ t (suc p) a
      own_square = t-idem p a (turn-all a)

      keeps : t (suc p) a · a ≡ a
      keeps = t-mul p a ∙ turn-all a

      not-zero : ¬ (t (suc p) a ≡ zeros)
      not-zero z = n (sym keeps ∙ ap (λ x. x · a) z ∙ zeros-mul T a)

      -- the square is the turn
      fixed : turn (at 1) (t (suc p) a) ≡ t (suc p) a
      fixed = sym (square (t (suc p) a)) ∙ own_square

      pub t-all : t (suc p) a ≡ ones
      t-all = all_same (t (suc p) a) fixed not-zero

    β-ones : (i : Ix p) → β i · ones ≡ β i
    β-ones i = comm (β i) ones ∙ ap (λ x. x · β i) (sym (t-all (β i) (β≢zeros i))) ∙ keeps (β i) (β≢zeros i)

    pub ones-mul : (a : Vec p) → ones · a ≡ a
    ones-mul a = comm ones a ∙ mul-lin T a ones ∙ simp (← mul-β, β-ones) (lin-basis a)

    -- as that power of β0 is one, β0 times one is β0, and it is the sum of all rows
    pub rule7 : Rule7
    rule7 r = unfold lin in ap (λ f. f r) (sym (mul-o T ones) ∙ β-ones o)

    pub t-suc : (k : ℕ) (a : Vec p) → turn (at 1) (t k a) · a ≡ t (suc k) a
    unfolding t
    t-suc zero a = rw turn-ones (ones-mul a)
    t-suc (suc k) a = refl

    -- both are the power of exponent 2 ^ (k + 1) - 1
    t-first : (k : ℕ) (a : Vec p) → turn (at k) a · t k a ≡ turn (at 1) (t k a) · a
    t-first zero a = unfold t in rw (turn-z, turn-ones) (comm a ones)
    t-first (suc k) a = rw (← t-mul k a, ← square) (comm _ _ ∙ sym (mul_assoc _ _ a))

    pub t-add : (j k : ℕ) (a : Vec p) → turn (at k) (t j a) · t k a ≡ t (j + k) a
    t-add zero k a = rw zero-add (unfold t in (rw turn-ones (ones-mul (t k a))))
    t-add (suc j) k a =
        rw (← t-suc j a, suc-add, ← t-suc (j + k) a, ← t-add j k a, turn-mul T (at k), turn-mul T (at 1), turn-swap (at k) (at 1), mul_assoc, t-first k a)
        (sym (mul_assoc _ _ a))

    pow-add : (i j : ℕ) (a : Vec p) → pow i a · pow j a ≡ pow (i + j) a
    unfolding pow
    pow-add i zero a = rw add-zero (comm (pow i a) ones ∙ ones-mul (pow i a))
    pow-add i (suc j) a = rw (← mul_assoc, pow-add i j a, add-suc)

    pub t-pow : (k : ℕ) (a : Vec p) → t k a ≡ pow (2 ^ k - 1) a
    unfolding t pow
    t-pow zero a = refl
    t-pow (suc k) a = sym (t-suc k a) ∙ rw (t-pow k a, ← square, pow-add) (ap (λ n. pow n a) (next k))
      where
        next : (k : ℕ) → suc (2 ^ k - 1 + (2 ^ k - 1)) ≡ 2 ^ suc k - 1
        next k = omega (arith, pow_pos k)

    pub t-inverse : (a : Vec p) → ¬ (a ≡ zeros) → a · turn (at 1) (t p a) ≡ ones
    t-inverse a n = comm a _ ∙ t-suc p a ∙ t-all a n

    pub t-turn-pow : (a : Vec p) → turn (at 1) (t p a) ≡ pow (2 ^ suc p - 2) a
    t-turn-pow a = sym (square (t p a)) ∙ rw (t-pow p a, pow-add) (ap (λ n. pow n a) (omega (arith, pow_pos p)))

    pub field : Field
    field = record {
      comm = comm;
      assoc = mul_assoc;
      distrib = mul-add T;
      unit = ones;
      neutral = ones-mul;
      inverse = λ a n. (turn (at 1) (t p a), t-inverse a n);
    }

    pub field-unit : field.unit ≡ ones
    unfolding field
    field-unit = refl

    -- only that vector has product one with a
    pub t-unique : (a b : Vec p) → a · b ≡ ones → b ≡ turn (at 1) (t p a)
    unfolding field
    t-unique a b e = unique-inverse field a b _ e (t-inverse a (λ z. true≢false (ap (λ f. f o) (sym e ∙ ap (λ x. x · b) z ∙ zeros-mul T b))))

  module _ (f : Field) (s : Squares) where
    field_laws : Laws
    field_laws = record {
      symmetric = record {
        rule4 = sym (pair-o T o) ∙ sym (mul-ββ T o o) ∙ s (β o) ∙ turn-β (at 1) o ∙ ap β (z-add (at 1));
        rule5 = λ d. sym (pair-o T d) ∙ sym (mul-ββ T o d) ∙ f.comm (β o) (β d) ∙ (unfold pair in mul-ββ T d o);
      };
      rule6 = λ i j. f.assoc (β o) (β i) (β j);
    }

  pub laws-field : Laws ↔ (Field × Squares)
  laws-field = (λ c. (field c, square c), λ h. field_laws h.0 h.1)

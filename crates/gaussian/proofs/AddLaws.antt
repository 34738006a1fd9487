-- What is added to a table: one coordinate, nothing, one thing after another, in one row and row after row.
use mathlib.Core.Path.{◌≡◌, refl, ap, ◌∙◌}
use mathlib.Core.Bool.{Bool, true, false}
use mathlib.Core.List.{List}
use Prim.Native.Nat.{ℕ, ◌+◌, ◌*◌, ◌/◌, ◌%◌, ◌^◌, ◌<◌, ◌≤◌}
use native.Mathlib.Nat.{lt_irrefl, lt_of_lt_of_le}
use native.Mathlib.Decide.{ℕ_discrete, dec_lt}
use native.Mathlib.Omega.{arith}
use lib.ListN.{get_or, set}
use lib.Bits.{bit_xor}
use lib.Dec.{eqb, ltb}
use borrow.Author.Tests.{eq-eqb, ne_eqb, lt-ltb, le-ltb}
use Rattle.gf2.specs.Operands.{bytes_for, choose}
use Rattle.gaussian.specs.Inner.{HasRow, in_row, Adds}
use Rattle.gaussian.proofs.RowLaws.{rows_ext, shifted, flip-rows}

-- one coordinate, as the code adds it
pub flip-adds : {m d s at v : ℕ} {l : List ℕ} → HasRow m d l → s < m → at ≡ d * bytes_for m + s / 8 → v ≡ 1 * 2 ^ (s % 8) % 256 →
    Adds m (in_row d (λ i. choose (eqb i s) 1 0)) l (set l at (bit_xor (get_or l at 0) v))
flip-adds {m} {d} {s} {at} {v} {l} r h ea ev f e = rw (ea, ev, shifted (s % 8) (omega arith), e) (flip-rows m m f d s r.row h)

-- nothing, and one thing after another
pub adds_none : (m : ℕ) (h : ℕ → ℕ → ℕ) (l : List ℕ) → ((d s : ℕ) → d < m → s < m → h d s % 2 ≡ 0) → Adds m h l l
adds_none m h l z f e = e ∙ rows_ext m m _ _ (λ d s ld ls. omega (arith, z d s ld ls))

adds-more : (m : ℕ) (h k e : ℕ → ℕ → ℕ) {a b c : List ℕ} → Adds m h a b → Adds m k b c → ((d s : ℕ) → d < m → s < m → (h d s + k d s) % 2 ≡ e d s % 2) → Adds m e a c
adds-more m h k e p q same f is = q _ (p f is) ∙ rows_ext m m _ _ (λ d s ld ls. omega (arith, same d s ld ls))

-- the same in one row
module _ (m d : ℕ) where
  row-choice : (k j : ℕ → ℕ) (e i : ℕ) → k i % 2 ≡ j i % 2 → in_row d k e i % 2 ≡ in_row d j e i % 2
  row-choice k j e i h = go (eqb e d)
    where
      go : (b : Bool) → choose b (k i) 0 % 2 ≡ choose b (j i) 0 % 2
      go true = h
      go false = refl

  row-sum : (k l : ℕ → ℕ) (e i : ℕ) → in_row d k e i + in_row d l e i ≡ in_row d (λ r. k r + l r) e i
  row-sum k l e i = go (eqb e d)
    where
      go : (b : Bool) → choose b (k i) 0 + choose b (l i) 0 ≡ choose b (k i + l i) 0
      go true = refl
      go false = refl

  pub row-none : (k : ℕ → ℕ) (l : List ℕ) → ((i : ℕ) → i < m → k i % 2 ≡ 0) → Adds m (in_row d k) l l
  row-none k l z = adds_none m (in_row d k) l (λ e i le li. row-choice k (λ r. 0) e i (z i li) ∙ zeros (eqb e d))
    where
      zeros : (b : Bool) → choose b 0 0 % 2 ≡ 0
      zeros true = refl
      zeros false = refl

  pub row_more : (k l j : ℕ → ℕ) {a b c : List ℕ} → Adds m (in_row d k) a b → Adds m (in_row d l) b c → ((i : ℕ) → i < m → (k i + l i) % 2 ≡ j i % 2) → Adds m (in_row d j) a c
  row_more k l j p q h = adds-more m (in_row d k) (in_row d l) (in_row d j) p q (λ e i le li. ap (λ x. x % 2) (row-sum k l e i) ∙ row-choice (λ r. k r + l r) j e i (h i li))

  pub row_same : (k j : ℕ → ℕ) {a b : List ℕ} → Adds m (in_row d k) a b → ((i : ℕ) → i < m → k i % 2 ≡ j i % 2) → Adds m (in_row d j) a b
  row_same k j p h f e = p f e ∙ rows_ext m m _ _ (λ c i lc li. omega (arith, row-choice k j c i (h i li)))

-- what is added to the places below n, and then at n
pub up-to : (i n x : ℕ) → choose (ltb i n) x 0 + choose (eqb i n) x 0 ≡ choose (ltb i (n + 1)) x 0
up-to i n x = elim (dec_lt i n) [
  | yes h ↦ rw (lt-ltb i n h, ne_eqb i n (λ e. lt_irrefl n (rw e at h)), lt-ltb i (n + 1) (omega arith)) (omega arith)
  | no h ↦ elim (ℕ_discrete i n) [
    | yes e ↦ rw (le-ltb i n (omega arith), eq-eqb i n e, lt-ltb i (n + 1) (omega arith)) (omega arith)
    | no e ↦ rw (le-ltb i n (omega arith), ne_eqb i n e, le-ltb i (n + 1) (omega arith))
  ]
]

-- row after row: G e i at coordinate i of each row e below n
module _ (m : ℕ) (G : ℕ → ℕ → ℕ) where
  abbrev pub up_to : ℕ → ℕ → ℕ → ℕ
  up_to n e i = choose (ltb e n) (G e i) 0

  pub rows_none : (l : List ℕ) → Adds m (up_to 0) l l
  rows_none l = adds_none m (up_to 0) l (λ e i le li. rw (le-ltb e 0 (omega arith)))

  pub rows_more : (d : ℕ) (k : ℕ → ℕ) {a b c : List ℕ} → Adds m (up_to d) a b → Adds m (in_row d k) b c → ((i : ℕ) → k i ≡ G d i) → Adds m (up_to (d + 1)) a c
  rows_more d k p q h = adds-more m (up_to d) (in_row d k) (up_to (d + 1)) p q (λ e i le li. ap (λ x. x % 2) (ap (λ x. up_to d e i + x) (here e i) ∙ up-to e d (G e i)))
    where
      here : (e i : ℕ) → in_row d k e i ≡ choose (eqb e d) (G e i) 0
      here e i = elim (ℕ_discrete e d) [
        | yes q ↦ rw (eq-eqb e d q, q) (h i)
        | no q ↦ rw (ne_eqb e d q)
      ]

  pub rows_all : {n : ℕ} {a b : List ℕ} → Adds m (up_to n) a b → m ≤ n → Adds m G a b
  rows_all {n} p h f e = p f e ∙ rows_ext m m _ _ (λ c i lc li. rw (lt-ltb c n (lt_of_lt_of_le lc h)))

-- What one w adds to all rows, row after row, and the sum over all w.
use mathlib.Core.Path.{◌≡◌, refl, sym, ap, ◌∙◌}
use mathlib.Core.Bool.{true, false}
use mathlib.Core.List.{List}
use Prim.Native.Nat.{ℕ, ◌+◌, ◌*◌, ◌%◌, ◌^◌, ◌≤◌}
use native.Mathlib.Nat.{add_comm, mul_comm, mul_assoc, one-mul, mod-eq_of_lt, mod-add-mod, pow-zero, pow-succ'}
use native.Mathlib.Numerals.{add-one}
use lib.ListN.{length, replicate}
use Rattle.gf2.specs.Sums.{sum}
use Rattle.gf2.specs.Operands.{bytes_for}
use Rattle.gaussian.specs.Types.{modulus}
use Rattle.gaussian.specs.Table.{in_k, gives, term, row_coord, rows_of, drawn}
use Rattle.gaussian.specs.Inner.{Residue, in_row, Adds}
use Rattle.gf2.proofs.Remainders.{mul_mod_left}
use Rattle.gaussian.proofs.ResidueLaws.{residue-of}
use Rattle.gaussian.proofs.RowLaws.{zeros-table, zero-rows}
use Rattle.gaussian.proofs.AddLaws.{adds_none, up_to, rows_none, rows_more, rows_all}

-- what w gives in row d
abbrev pub given : ℕ → ℕ → ℕ → ℕ → ℕ → ℕ
given p t w d = gives p t ((1 + 2 ^ d * w) % p)

-- the rows below d are done, and y is 2^d·w modulo p
pub record TermLoop (m t p w : ℕ) (old new : List ℕ) (y d : ℕ) : Type 0 where
  pub adds : Adds m (up_to m (given p t w) d) old new
  pub size : length new ≡ length old
  pub less : Residue p y
  pub power : y ≡ 2 ^ d * w % p

module _ {m t p w : ℕ} where
  pub term-start : (l : List ℕ) → Residue p w → TermLoop m t p w l l w 0
  term-start l r = record {
    adds = rows_none m (given p t w) l;
    size = refl;
    less = r;
    power = sym (ap (λ x. x * w % p) (pow-zero 2) ∙ ap (λ x. x % p) (one-mul w) ∙ mod-eq_of_lt r);
  }

  module _ {a b : List ℕ} {y d : ℕ} (l : TermLoop m t p w a b y d) where
    -- 1 + 2^d·w, as the code makes it
    image : (y + 1) % p ≡ (1 + 2 ^ d * w) % p
    image = ap (λ x. (x + 1) % p) l.power ∙ mod-add-mod (2 ^ d * w) p 1 ∙ ap (λ x. x % p) (add_comm (2 ^ d * w) 1)

    pub term-more : {x z : ℕ} {c : List ℕ} → x ≡ (y + 1) % p → z ≡ y * 2 % p → Adds m (in_row d (gives p t x)) b c → length c ≡ length b → TermLoop m t p w a c z (d + 1)
    term-more ex ez more e = record {
      adds = rows_more m (given p t w) d _ l.adds more (λ i. ap (λ k. gives p t k i) (ex ∙ image));
      size = e ∙ l.size;
      less = residue-of _ ez l.less;
      power =
          ez ∙ ap (λ x. x * 2 % p) l.power ∙ sym (mul_mod_left (2 ^ d * w) 2 p)
          ∙ ap (λ x. x % p) (mul_comm (2 ^ d * w) 2 ∙ sym (mul_assoc 2 (2 ^ d) w) ∙ ap (λ x. x * w) (sym (pow-succ' 2 d)) ∙ ap (λ k. 2 ^ k * w) (sym (add-one d)));
    }

    pub term-done : m ≤ d → Adds m (given p t w) a b
    term-done h = rows_all m (given p t w) l.adds h

-- w is in K, or not
module _ (m t p w : ℕ) where
  pub term_in : {a b : List ℕ} → in_k p t w ≡ true → Adds m (given p t w) a b → Adds m (term p t w) a b
  unfolding term
  term_in k h = rw k h

  pub term-out : (l : List ℕ) → in_k p t w ≡ false → Adds m (term p t w) l l
  unfolding term
  term-out l k = adds_none m (term p t w) l (λ d s ld ls. rw k)

-- the sum over the w below n
abbrev pub partial : ℕ → ℕ → ℕ → List ℕ
partial m t n = rows_of m m (λ d s. sum n (λ w. term (modulus m t) t w d s))

pub sum-start : (m t : ℕ) {l : List ℕ} → l ≡ replicate (m * bytes_for m) 0 → l ≡ partial m t 0
unfolding sum
sum-start m t e = e ∙ zeros-table (m * bytes_for m) ∙ zero-rows m m

pub sum_more : (m t w : ℕ) {l k : List ℕ} → l ≡ partial m t w → Adds m (term (modulus m t) t w) l k → k ≡ partial m t (w + 1)
unfolding sum
sum_more m t w e h = rw add-one (h _ e)

pub sum_done : (m t n : ℕ) {l : List ℕ} → l ≡ partial m t n → n ≡ modulus m t → l ≡ drawn m t
unfolding drawn row_coord
sum_done m t n e h = e ∙ ap (partial m t) h

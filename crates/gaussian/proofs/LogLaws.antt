-- The loop that fills the logarithms, one power of 2^t a turn, and what a logarithm says of cosets.
use Rattle.std.specs.Prelude.{None, Some}
use mathlib.Core.Path.{◌≡◌, sym, ap, ◌∙◌}
use mathlib.Core.List.{List}
use Prim.Native.Nat.{ℕ, ◌+◌, ◌*◌, ◌%◌, ◌^◌, ◌<◌}
use native.Mathlib.Nat.{mod-mod, mod-eq_of_lt, pow-zero, pow-suc}
use native.Mathlib.Decide.{ℕ_discrete}
use native.Mathlib.Numerals.{add-one}
use native.Mathlib.Omega.{arith}
use lib.ListN.{get_or, set, replicate, length-set, length-replicate}
use lib.Seq.{get_or-set_same, get_or-set_other}
use lib.Dec.{eqb}
use borrow.Author.Tests.{eq-eqb, ne_eqb}
use Rattle.gf2.specs.Operands.{choose}
use Rattle.gf2.proofs.Coordinates.{zero-at}
use Rattle.gaussian.specs.Types.{modulus}
use Rattle.gaussian.specs.Table.{gives}
use Rattle.gaussian.specs.Inner.{residues, Residue, Drawable, Logarithms, LogarithmOf}
use Rattle.gaussian.proofs.Modulo.{mul-cong}
use Rattle.gaussian.proofs.Cosets.{power-one, coset-in, coset-out}
use Rattle.gaussian.proofs.ResidueLaws.{residue-of, drawable-small}

pub record LogLoop (m t : ℕ) (logs : List ℕ) (y s : ℕ) : Type 0 where
  pub power : (2 ^ t) ^ s % modulus m t ≡ y
  pub less : Residue (modulus m t) y
  pub entries : Logarithms m t s logs

-- entries that are all 0
pub no-logarithms : (m t : ℕ) → Logarithms m t 0 (replicate residues 0)
no-logarithms m t = record { size = length-replicate {A = ℕ} residues 0; known = λ s l. absurd (omega arith); sound = λ y s e. absurd (omega (arith, zero-at residues y, e)) }

module _ {m t : ℕ} (d : Drawable m t) where
  pub log-start : {logs : List ℕ} → Logarithms m t 0 logs → LogLoop m t logs 1 0
  log-start l = let h = d.is_type.0.0 in record {
    power = ap (λ x. x % modulus m t) (pow-zero (2 ^ t)) ∙ mod-eq_of_lt h;
    less = h;
    entries = l;
  }

  module _ {logs : List ℕ} {y s : ℕ} (l : LogLoop m t logs y s) (below : s < m) where
    new-known : (i : ℕ) → i < s + 1 → get_or (set logs y (s + 1)) ((2 ^ t) ^ i % modulus m t) 0 ≡ i + 1
    new-known i h = elim (ℕ_discrete i s) [
      | yes q ↦ rw (q, l.power) (get_or-set_same logs y (s + 1) 0 (omega (arith, l.entries.size, drawable-small d, l.less)))
      | no q ↦ get_or-set_other logs y ((2 ^ t) ^ i % modulus m t) (s + 1) 0 (λ e. q (power-one m t d.least d.is_type i s (omega arith) below (e ∙ sym l.power)))
          ∙ l.entries.known i (omega arith)
    ]

    new-sound : (z i : ℕ) → get_or (set logs y (s + 1)) z 0 ≡ i + 1 → (i < s + 1) × ((2 ^ t) ^ i % modulus m t ≡ z)
    new-sound z i e = elim (ℕ_discrete z y) [
      | yes q ↦ let same : i ≡ s = omega (arith, sym (get_or-set_same logs y (s + 1) 0 (omega (arith, l.entries.size, drawable-small d, l.less))) ∙ ap (λ k. get_or (set logs y (s + 1)) k 0) (sym q) ∙ e) in
          (omega arith, ap (λ k. (2 ^ t) ^ k % modulus m t) same ∙ l.power ∙ sym q)
      | no q ↦ let old = l.entries.sound z i (sym (get_or-set_other logs y z (s + 1) 0 q) ∙ e) in (omega (arith, old.0), old.1)
    ]

    pub log-more : {base z : ℕ} → base ≡ 2 ^ t % modulus m t → z ≡ y * base % modulus m t → LogLoop m t (set logs y (s + 1)) z (s + 1)
    log-more {base} e ez = record {
      power =
          ap (λ k. (2 ^ t) ^ k % modulus m t) (add-one s) ∙ ap (λ x. x % modulus m t) (pow-suc (2 ^ t) s)
          ∙ mul-cong ((2 ^ t) ^ s) y (2 ^ t) base (modulus m t) (l.power ∙ sym (mod-eq_of_lt l.less)) (sym (mod-mod (2 ^ t) (modulus m t)) ∙ ap (λ x. x % modulus m t) (sym e))
          ∙ sym ez;
      less = residue-of _ ez l.less;
      entries = record { size = length-set logs y (s + 1) ∙ l.entries.size; known = new-known; sound = new-sound };
    }

  pub log-done : {logs : List ℕ} {y s : ℕ} → LogLoop m t logs y s → s ≡ m → Logarithms m t m logs
  log-done l e = rw e at l.entries

-- what a residue gives, by its logarithm
pub gives-odd : (p t x i : ℕ) → x ≡ 0 → t % 2 ≡ 1 → 1 % 2 ≡ gives p t x i % 2
unfolding gives
gives-odd p t x i z odd = rw (eq-eqb x 0 z, odd)

pub gives-even : (p t x i : ℕ) → x ≡ 0 → (t % 2 ≡ 1 → ⊥) → gives p t x i % 2 ≡ 0
unfolding gives
gives-even p t x i z n = rw (eq-eqb x 0 z) (omega arith)

module _ {m t p x : ℕ} (d : Drawable m t) (is : p ≡ modulus m t) (rx : Residue p x) (nz : x ≡ 0 → ⊥) where
  pub gives-log : {s : ℕ} → LogarithmOf m t x (Some s) → (i : ℕ) → i < m → choose (eqb i s) 1 0 % 2 ≡ gives p t x i % 2
  unfolding gives
  gives-log {s} l i li = rw (is, ne_eqb x 0 nz) (elim (ℕ_discrete i s) [
    | yes q ↦ rw (eq-eqb i s q, coset-in m t d.least d.is_type i x li (rw is at rx) (sym l.1 ∙ ap (λ k. (2 ^ t) ^ k % modulus m t) (sym q)))
    | no q ↦ rw (ne_eqb i s q, coset-out m t d.least d.is_type i x (λ e. q (power-one m t d.least d.is_type i s li l.0 (sym e ∙ sym l.1))))
  ])

  pub gives_none : LogarithmOf m t x None → (i : ℕ) → i < m → gives p t x i % 2 ≡ 0
  unfolding gives
  gives_none l i li = rw (is, ne_eqb x 0 nz, coset-out m t d.least d.is_type i x (λ e. l i li (sym e)))

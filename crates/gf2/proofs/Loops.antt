-- The invariant of a loop that fills a list from the front, one store a turn: its start, a turn, its end.
-- Element by element, and the end of a loop over zeros that stops where what is left would be 0.
use mathlib.Core.Path.{◌≡◌, refl, sym, ap, ◌∙◌}
use mathlib.Core.List.{List, ◌++◌, append-nil}
use Prim.Native.Nat.{ℕ, suc, ◌+◌, ◌-◌, ◌<◌, ◌≤◌}
use native.Mathlib.Numerals.{add-one}
use native.Mathlib.Decide.{dec_lt}
use native.Mathlib.Omega.{arith}
use lib.ListN.{length, get_or, set, drop, drop_of_length-le, length-append, length-drop, replicate, length-replicate, get_or-replicate, get_or-append}
use lib.Seq.{drop-cons, set_at, append_snoc, get_or-append-add, get_or-drop, ext_get_or}
use Rattle.gf2.specs.Coordinates.{tabulate}
use Rattle.gf2.specs.Operands.{below}
use Rattle.gf2.proofs.Coordinates.{length-tabulate, get_d_tabulate}
use Rattle.gf2.proofs.Operands.{below_in, below_out}

-- the first b of n elements of l are f 0, .., f (b - 1), and the others are as in l₀
pub record Filled (n : ℕ) (f : ℕ → ℕ) (l₀ l : List ℕ) (b : ℕ) : Type 0 where
  pub within : b ≤ n
  pub content : l ≡ tabulate b f ++ drop b l₀

pub filled_none : (n : ℕ) (f : ℕ → ℕ) (l : List ℕ) → Filled n f l l 0
unfolding tabulate
filled_none n f l = record { within = omega arith; content = refl }

pub filled_more : {n : ℕ} {f : ℕ → ℕ} {l₀ l : List ℕ} {b : ℕ} {x : ℕ} → Filled n f l₀ l b → b < n → n ≤ length l₀ → x ≡ f b → Filled n f l₀ (set l b x) (b + 1)
unfolding tabulate
filled_more {n} {f} {l₀} {l} {b} {x} done h size e = record {
  within = omega arith;
  content = rw (done.content, e, add-one, drop-cons l₀ b 0 (omega arith), set_at (tabulate b f) (get_or l₀ b 0) (drop (suc b) l₀) (f b) b (length-tabulate b f), append_snoc);
}

pub filled-all : {n : ℕ} {f : ℕ → ℕ} {l₀ l : List ℕ} {b : ℕ} → Filled n f l₀ l b → n ≤ b → length l₀ ≤ n → l ≡ tabulate n f
filled-all {n} {f} {l₀} {l} {b} done h size =
    let e : b ≡ n = omega arith in
    done.content ∙ ap (λ k. tabulate k f ++ drop k l₀) e ∙ ap (λ r. tabulate n f ++ r) (drop_of_length-le l₀ size) ∙ append-nil (tabulate n f)

-- element by element
module _ {n : ℕ} {f : ℕ → ℕ} {l₀ l : List ℕ} {b : ℕ} (done : Filled n f l₀ l b) where
  pub filled-length : b ≤ length l₀ → length l ≡ length l₀
  filled-length h = ap length done.content ∙ omega (arith, length-append (tabulate b f) (drop b l₀), length-tabulate b f, length-drop b l₀)

  pub filled-front : (w : ℕ) → w < b → get_or l w 0 ≡ f w
  filled-front w h = ap (λ x. get_or x w 0) done.content ∙ get_or-append (tabulate b f) (drop b l₀) 0 w (omega (arith, length-tabulate b f)) ∙ get_d_tabulate b f w h

  pub filled-back : (w : ℕ) → b ≤ w → get_or l w 0 ≡ get_or l₀ w 0
  filled-back w h =
      let place : w ≡ length (tabulate b f) + (w - b) = omega (arith, length-tabulate b f) in
      let old : b + (w - b) ≡ w = omega arith in
      ap (λ x. get_or x w 0) done.content ∙ ap (λ k. get_or (tabulate b f ++ drop b l₀) k 0) place ∙ get_or-append-add (tabulate b f) (drop b l₀) (w - b) 0
      ∙ get_or-drop b l₀ (w - b) 0 ∙ ap (λ k. get_or l₀ k 0) old

-- over a list of zeros: what is left is 0
pub filled-early : {n : ℕ} {f : ℕ → ℕ} {l : List ℕ} {b : ℕ} → Filled n f (replicate n 0) l b → ((w : ℕ) → b ≤ w → w < n → f w ≡ 0) → l ≡ tabulate n f
filled-early {n} {f} {l} {b} done none = ext_get_or 0 l (tabulate n f) (size ∙ sym (length-tabulate n f)) (λ w h.
    let k : w < n = omega (arith, size) in
    elim (dec_lt w b) [
      | yes q ↦ filled-front done w q ∙ sym (get_d_tabulate n f w k)
      | no q ↦ filled-back done w (omega arith) ∙ get_or-replicate {A = ℕ} n w 0 0 k ∙ sym (get_d_tabulate n f w k ∙ none w (omega arith) k)
    ])
  where
    size : length l ≡ n
    size = filled-length done (omega (arith, done.within, length-replicate {A = ℕ} n 0)) ∙ length-replicate {A = ℕ} n 0

-- over N zeros, of which the loop fills the first n
pub filled-reach : {n : ℕ} {f : ℕ → ℕ} {l : List ℕ} {b : ℕ} (N : ℕ) → Filled n f (replicate N 0) l b → n ≤ b → n ≤ N → l ≡ tabulate N (below n f)
filled-reach {n} {f} {l} {b} N done h fits = ext_get_or 0 l (tabulate N (below n f)) (size ∙ sym (length-tabulate N (below n f))) (λ w k.
    let k' : w < N = omega (arith, size) in
    let whole : b ≤ n = done.within in
    elim (dec_lt w n) [
      | yes q ↦ filled-front done w (omega arith) ∙ sym (get_d_tabulate N (below n f) w k' ∙ below_in n f w q)
      | no q ↦ filled-back done w (omega arith) ∙ get_or-replicate {A = ℕ} N w 0 0 k' ∙ sym (get_d_tabulate N (below n f) w k' ∙ below_out n f w (omega arith))
    ])
  where
    size : length l ≡ N
    size = filled-length done (omega (arith, done.within, length-replicate {A = ℕ} N 0)) ∙ length-replicate {A = ℕ} N 0

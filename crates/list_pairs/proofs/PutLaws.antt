-- Laws of gates that are stored one after another, of those of pairs, and of where a part is stored.
use mathlib.Core.Path.{◌≡◌, refl, sym, ap, ap₂, ◌∙◌}
use mathlib.Core.Bool.{Bool, true, false, true≢false}
use mathlib.Core.List.{List, [], ◌∷◌, ◌++◌}
use Prim.Native.Nat.{ℕ, ◌+◌, ◌*◌, ◌/◌, ◌<◌, ◌≤◌}
use native.Mathlib.Nat.{mul-one}
use native.Mathlib.Numerals.{add-one}
use native.Mathlib.Omega.{arith}
use lib.ListN.{length, length-append}
use lib.Seq.{sets}
use lib.Dec.{ltb}
use borrow.Author.Tests.{lt-ltb, le-ltb, ltb-true, ltb-false}
use Rattle.gf2.specs.Operands.{max_width, choose}
use Rattle.gf2.proofs.Sums.{sum-most}
use Rattle.netlist.specs.Gates.{Gate, AND, XOR, word_limit, gate_words}
use Rattle.netlist.specs.Lists.{each, only}
use Rattle.netlist.proofs.FoldLaws.{length-each}
use Rattle.netlist.proofs.StoreLaws.{sets-append}
use Rattle.netlist.proofs.WordLaws.{length-words, words_append}
use Rattle.list_pairs.specs.Pairs.{fits, GatesPut, pair_gate, row_gates, pair_gates, pairs_from}

-- the most that lists one after another have
pub each-most : {A : Type 0} (n c : ℕ) (f : ℕ → List A) → ((k : ℕ) → length (f k) ≤ c) → length (each n f) ≤ n * c
each-most n c f h = rw (length-each n f) (sum-most n c (λ k. length (f k)) h)

pub only-most : {A : Type 0} (b : Bool) (w : A) → length (only b w) ≤ 1
unfolding only
only-most true w = omega arith
only-most false w = omega arith

-- the words of gates after those of n gates
words_more : (n : ℕ) (gs hs : List Gate) (out : List ℕ) →
    sets (sets out (2 + 3 * n) (gate_words gs)) (2 + 3 * (n + length gs)) (gate_words hs) ≡ sets out (2 + 3 * n) (gate_words (gs ++ hs))
words_more n gs hs out =
    ap (λ k. sets (sets out (2 + 3 * n) (gate_words gs)) k (gate_words hs)) (omega (arith, length-words gs))
    ∙ sym (sets-append out (2 + 3 * n) (gate_words gs) (gate_words hs)) ∙ ap (sets out (2 + 3 * n)) (sym (words_append gs hs))

-- no gates, one gate, gates after gates
pub put-none : (n : ℕ) (old : List ℕ) → GatesPut n old [] n old
unfolding gate_words
put-none n old = record { next = omega arith; words = refl }

pub put-and : {n : ℕ} {old out : List ℕ} {l r : ℕ} → out ≡ sets old (2 + 3 * n) (0 ∷ l ∷ r ∷ []) → GatesPut n old (AND l r ∷ []) (n + 1) out
unfolding gate_words
put-and e = record { next = refl; words = e }

pub put-xor : {n : ℕ} {old out : List ℕ} {l r : ℕ} → out ≡ sets old (2 + 3 * n) (1 ∷ l ∷ r ∷ []) → GatesPut n old (XOR l r ∷ []) (n + 1) out
unfolding gate_words
put-xor e = record { next = refl; words = e }

pub put-more : {n k q : ℕ} {old mid out : List ℕ} {a b : List Gate} → GatesPut n old a k mid → GatesPut k mid b q out → GatesPut n old (a ++ b) q out
put-more {n} {k} {q} {old} {mid} {out} {a} {b} x y = record {
  next = omega (arith, x.next, y.next, length-append a b);
  words = y.words ∙ ap₂ (λ z w. sets z (2 + 3 * w) (gate_words b)) x.words x.next ∙ words_more n a b old;
}

pub put-most : {n k : ℕ} {old out : List ℕ} {a : List Gate} (m : ℕ) → GatesPut n old a k out → length a ≤ m → k ≤ n + m
put-most m x h = omega (arith, x.next)

-- the gates of the numbers below j, one after another
pub put_next : {n k q : ℕ} {old mid out : List ℕ} (f : ℕ → List Gate) (j : ℕ) → GatesPut n old (each j f) k mid → GatesPut k mid (f j) q out → GatesPut n old (each (j + 1) f) q out
unfolding each
put_next f j x y = rw add-one (put-more x y)

-- the loop that stores the gates of the numbers below m: those of the numbers below j are stored
pub record PutTo (m : ℕ) (f : ℕ → List Gate) (n : ℕ) (old out : List ℕ) (k j : ℕ) : Type 0 where
  pub most : j ≤ m
  pub put : GatesPut n old (each j f) k out
  pub size : length out ≡ length old

pub to_none : (m : ℕ) (f : ℕ → List Gate) (n : ℕ) (old : List ℕ) → PutTo m f n old old n 0
unfolding each
to_none m f n old = record { most = omega arith; put = put-none n old; size = refl }

module _ {m : ℕ} {f : ℕ → List Gate} {n k j : ℕ} {old mid : List ℕ} (to : PutTo m f n old mid k j) where
  pub to-next : {q : ℕ} {out : List ℕ} → j < m → GatesPut k mid (f j) q out → length out ≡ length mid → PutTo m f n old out q (j + 1)
  to-next l p size = record { most = omega arith; put = put_next f j to.put p; size = size ∙ to.size }

  pub to-all : m ≤ j → GatesPut n old (each m f) k mid
  to-all h = let e : j ≡ m = omega (arith, to.most) in rw e at to.put

-- the gates of pairs
gate-most : (mixed : Bool) (m i j : ℕ) → length (pair_gate mixed m i j) ≤ 1
unfolding pair_gate
gate-most false m i j = only-most true _
gate-most true m i j = only-most (ltb i j) _

pub gates-most : (mixed : Bool) (m i j : ℕ) → length (row_gates mixed m i j) ≤ j
unfolding row_gates
gates-most mixed m i j = omega (arith, each-most j 1 (pair_gate mixed m i) (gate-most mixed m i), mul-one j)

pub pairs-most : (mixed : Bool) (m i : ℕ) → length (pair_gates mixed m i) ≤ i * m
unfolding pair_gates
pairs-most mixed m i = each-most i m (λ i. row_gates mixed m i m) (λ i. gates-most mixed m i m)

-- where a part is stored
pub fits-known : (m count n : ℕ) → fits m count n ≡ true → (2 ≤ m) × (m ≤ max_width) × (count ≤ m) × (n < word_limit / 2)
fits-known m count n e = go (ltb m 2) (ltb max_width m) (ltb m count) refl refl refl e
  where
    go : (a b c : Bool) → ltb m 2 ≡ a → ltb max_width m ≡ b → ltb m count ≡ c → choose a false (choose b false (choose c false (ltb n (word_limit / 2)))) ≡ true →
        (2 ≤ m) × (m ≤ max_width) × (count ≤ m) × (n < word_limit / 2)
    go false false false p q r e = (ltb-false m 2 p, ltb-false max_width m q, ltb-false m count r, ltb-true n (word_limit / 2) e)
    go true b c p q r e = absurd (true≢false (sym e))
    go false true c p q r e = absurd (true≢false (sym e))
    go false false true p q r e = absurd (true≢false (sym e))

module _ {m n : ℕ} (two : 2 ≤ m) (most : m ≤ max_width) (few : n < word_limit / 2) where
  pub fits-true : {count : ℕ} → count ≤ m → fits m count n ≡ true
  fits-true {count} l = rw (le-ltb m 2, le-ltb max_width m, le-ltb m count, lt-ltb n (word_limit / 2) few)

  pub pairs-fit : (mixed : Bool) → pairs_from mixed m n ≡ pair_gates mixed m m
  pairs-fit mixed = ap (λ b. choose b (pair_gates mixed m m) []) (fits-true (omega arith))

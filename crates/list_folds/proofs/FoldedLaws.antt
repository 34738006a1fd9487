-- Laws of the folds of several coordinates: one after another, of the same terms, and how many are stored.
use Rattle.std.specs.Prelude.{unwrap_or}
use mathlib.Core.Path.{◌≡◌, refl, sym, ap, ap₂, ◌∙◌, subst}
use mathlib.Core.List.{List, [], ◌∷◌, ◌++◌}
use Prim.Native.Nat.{ℕ, ◌+◌, ◌-◌, ◌*◌, ◌/◌, ◌<◌, ◌≤◌}
use native.Mathlib.Nat.{zero-add}
use native.Mathlib.Numerals.{add-one}
use native.Mathlib.Omega.{arith}
use lib.ListN.{length, set}
use lib.Seq.{sets}
use Rattle.gf2.specs.Sums.{sum}
use Rattle.gf2.specs.Operands.{max_width, choose}
use Rattle.gf2.proofs.Sums.{sum-ext, sum-most}
use Rattle.netlist.specs.Gates.{word_limit}
use Rattle.netlist.specs.Lists.{each, fold, end, start, folds, ends}
use Rattle.netlist.proofs.FoldLaws.{length-fold}
use Rattle.netlist.proofs.NetlistLaws.{length-ends, start-folds}
use Rattle.netlist.proofs.StoreLaws.{sets-snoc}
use Rattle.list_pairs.specs.Pairs.{GatesPut}
use Rattle.list_pairs.proofs.PutLaws.{put-none, put_next, fits-true}
use Rattle.list_folds.specs.declared.fold.Fold.{Fold}
use Rattle.list_folds.specs.TableFolds.{folds_from}
use Rattle.list_folds.specs.Folds.{fresh, Pushed}
use Rattle.list_folds.proofs.WriteLaws.{sum_end, whole-pushed, whole-stored}
use Rattle.list_folds.proofs.TermLaws.{each-ext}

-- a whole fold
fold-put : {m k : ℕ} {terms out mid : List ℕ} {f : Fold} → Pushed m (fresh k) out terms f mid → GatesPut k out (fold (2 * m + k) terms) f.gates mid × (unwrap_or f.running 0 ≡ end (2 * m + k) terms)
fold-put {m} {k} {terms} {out} p = (
  record {
    next = ap (λ (g : Fold). g.gates) (p.fold ∙ whole-pushed m k terms) ∙ ap (λ n. k + n) (sym (length-fold (2 * m + k) terms));
    words = p.words ∙ whole-stored m k terms out;
  },
  ap (λ (g : Fold). unwrap_or g.running 0) (p.fold ∙ whole-pushed m k terms) ∙ sum_end (2 * m + k) terms,
)

-- the folds of `terms` for the first coordinates, `count` of them, are stored from gate n on, and the wires of their sums
pub record Folded (m count n : ℕ) (terms : ℕ → List ℕ) (old wires : List ℕ) (k : ℕ) (out new : List ℕ) : Type 0 where
  pub put : GatesPut n old (folds count (2 * m + n) terms) k out
  pub sums : new ≡ sets wires 0 (ends count (2 * m + n) terms)

-- coordinate after coordinate
module _ {m n : ℕ} {terms : ℕ → List ℕ} {old wires : List ℕ} where
  pub folds-none : Folded m 0 n terms old wires n old wires
  unfolding folds ends each
  folds-none = record { put = put-none n old; sums = refl }

  -- each fold has a gate less than terms
  pub folds-few : {r k : ℕ} {out sums : List ℕ} (c : ℕ) → Folded m r n terms old wires k out sums → ((i : ℕ) → length (terms i) ≤ c + 1) → k ≤ n + r * c
  folds-few {r} c x h = omega (arith, x.put.next, start-folds (2 * m + n) terms r, first, sum-most r c (λ i. length (terms i) - 1) (λ i. omega (arith, h i)))
    where
      first : start (2 * m + n) terms r ≡ 2 * m + n + sum r (λ i. length (terms i) - 1)
      first = unfold start in refl

  pub folds-more : {r k : ℕ} {out mid sums new : List ℕ} {f : Fold} → Folded m r n terms old wires k out sums → Pushed m (fresh k) out (terms r) f mid →
      new ≡ set sums r (unwrap_or f.running 0) → Folded m (r + 1) n terms old wires f.gates mid new
  folds-more {r} {k} {sums = sums} x p e = record {
    put = unfold folds in put_next (λ r. fold (start (2 * m + n) terms r) (terms r)) r x.put (rw at-r at (fold-put p).0);
    sums = e ∙ ap₂ (λ s w. set s r w) x.sums ((fold-put p).1 ∙ ap (λ z. end z (terms r)) at-r) ∙ ap (λ z. set (sets wires 0 (ends r (2 * m + n) terms)) z (end (start (2 * m + n) terms r) (terms r))) (sym (zero-add r))
        ∙ sets-snoc wires 0 r (ends r (2 * m + n) terms) _ (length-ends (2 * m + n) terms r) ∙ ap (sets wires 0) (sym (ends_more r));
  }
    where
      at-r : 2 * m + k ≡ start (2 * m + n) terms r
      at-r = omega (arith, x.put.next, start-folds (2 * m + n) terms r)

      ends_more : (r : ℕ) → ends (r + 1) (2 * m + n) terms ≡ ends r (2 * m + n) terms ++ (end (start (2 * m + n) terms r) (terms r) ∷ [])
      ends_more r = unfold ends each in ap (λ i. each i (λ r. end (start (2 * m + n) terms r) (terms r) ∷ [])) (add-one r)

-- terms that are the same for the coordinates
module _ (count n : ℕ) (T U : ℕ → List ℕ) (e : (r : ℕ) → r < count → T r ≡ U r) where
  start-same : (r : ℕ) → r < count → start n T r ≡ start n U r
  unfolding start
  start-same r l = ap (λ k. n + k) (sum-ext r _ _ (λ k g. ap (λ z. length z - 1) (e k (omega arith))))

  folds-same : folds count n T ≡ folds count n U
  unfolding folds
  folds-same = each-ext count (λ r l. ap₂ fold (start-same r l) (e r l))

  ends_same : ends count n T ≡ ends count n U
  unfolding ends
  ends_same = each-ext count (λ r l. ap₂ (λ s z. end s z ∷ []) (start-same r l) (e r l))

pub folded-same : {m n k c count : ℕ} {T U : ℕ → List ℕ} {old wires out new : List ℕ} → c ≡ count → ((r : ℕ) → r < count → T r ≡ U r) → Folded m count n T old wires k out new → Folded m c n U old wires k out new
folded-same {m} {n} {k} {c} {count} {T} {U} {old} {wires} {out} q e x = record {
  put = subst (λ z. GatesPut n old z k out) (folds-same count (2 * m + n) T U e ∙ ap (λ z. folds z (2 * m + n) U) (sym q)) x.put;
  sums = x.sums ∙ ap (sets wires 0) (ends_same count (2 * m + n) T U e ∙ ap (λ z. ends z (2 * m + n) U) (sym q));
}

-- how many are folded
pub count_fits : {m n count : ℕ} → 2 ≤ m → m ≤ max_width → n < word_limit / 2 → count ≤ m → folds_from m count n ≡ count
count_fits {count = count} two most few l = ap (λ b. choose b count 0) (fits-true two most few l)

-- Laws of a fold term by term, of what it has stored, and of a whole fold.
use Rattle.std.specs.Prelude.{Option, None, Some, unwrap_or}
use mathlib.Core.Path.{◌≡◌, refl, sym, ap, ap₂, ◌∙◌}
use mathlib.Core.Bool.{Bool, true}
use mathlib.Core.List.{List, [], ◌∷◌, ◌++◌}
use Prim.Native.Nat.{ℕ, suc, ◌+◌, ◌-◌, ◌*◌, ◌≤◌}
use native.Mathlib.Omega.{arith}
use lib.ListN.{length}
use lib.Seq.{sets}
use Rattle.netlist.specs.Gates.{gate_words}
use Rattle.netlist.specs.Lists.{only, onto, last_wire, fold, end}
use Rattle.list_folds.specs.declared.fold.Fold.{Fold}
use Rattle.list_folds.specs.Folds.{fresh, term_after, pushed, stored, pushed_all, stored_all, Pushed}

pub fold-path : {f g : Fold} → f.running ≡ g.running → f.gates ≡ g.gates → f ≡ g
fold-path a b i = record { running = a i; gates = b i }

pub pushed-append : (m : ℕ) (f : Fold) (a b : List ℕ) → pushed_all m f (a ++ b) ≡ pushed_all m (pushed_all m f a) b
unfolding pushed_all
pushed-append m f [] b = refl
pushed-append m f (w ∷ a) b = pushed-append m (pushed m f w) a b

pub stored-append : (m : ℕ) (f : Fold) (a b out : List ℕ) → stored_all m f (a ++ b) out ≡ stored_all m (pushed_all m f a) b (stored_all m f a out)
unfolding pushed_all stored_all
stored-append m f [] b out = refl
stored-append m f (w ∷ a) b out = stored-append m (pushed m f w) a b (stored f w out)

-- each term makes at most one gate
pub pushed_most : (m : ℕ) (f : Fold) (a : List ℕ) → (pushed_all m f a).gates ≤ f.gates + length a
unfolding pushed_all
pushed_most m f [] = omega arith
pushed_most m f (w ∷ a) = omega (arith, pushed_most m (pushed m f w) a, one)
  where
    one : (pushed m f w).gates ≤ f.gates + 1
    one = unfold pushed in go f.running
      where
        go : (r : Option ℕ) → (term_after m r f.gates w).gates ≤ f.gates + 1
        go None = omega arith
        go (Some r) = omega arith

-- a fold that has a term
abbrev begun_at : ℕ → ℕ → Fold
begun_at w n = record { running = Some w; gates = n }

begun-pushed : (m w n : ℕ) (a : List ℕ) → pushed_all m (begun_at w n) a ≡ begun_at (last_wire (2 * m + n) w a) (n + length a)
unfolding pushed_all last_wire pushed
begun-pushed m w n [] = fold-path refl (omega arith)
begun-pushed m w n (t ∷ a) =
    begun-pushed m (2 * m + n) (n + 1) a
    ∙ fold-path (ap (λ k. Some (last_wire k (2 * m + n) a)) (omega arith)) (omega arith)

begun-stored : (m w n : ℕ) (a out : List ℕ) → stored_all m (begun_at w n) a out ≡ sets out (2 + 3 * n) (gate_words (onto (2 * m + n) w a))
unfolding stored_all onto gate_words pushed stored
begun-stored m w n [] out = refl
begun-stored m w n (t ∷ a) out =
    begun-stored m (2 * m + n) (n + 1) a (sets out (2 + 3 * n) (1 ∷ w ∷ t ∷ []))
    ∙ ap₂ (λ p k. sets (sets out (2 + 3 * n) (1 ∷ w ∷ t ∷ [])) p (gate_words (onto k (2 * m + n) a))) place (omega arith)
  where
    place : 2 + 3 * (n + 1) ≡ suc (suc (suc (2 + 3 * n)))
    place = omega arith

-- a whole fold, and the wire of its sum
abbrev pub sum_wire : ℕ → List ℕ → Option ℕ
sum_wire n [] = None
sum_wire n (t ∷ a) = Some (last_wire n t a)

pub sum_end : (n : ℕ) (a : List ℕ) → unwrap_or (sum_wire n a) 0 ≡ end n a
sum_end n [] = refl
sum_end n (t ∷ a) = refl

pub whole-pushed : (m n : ℕ) (a : List ℕ) → pushed_all m (fresh n) a ≡ record { running = sum_wire (2 * m + n) a; gates = n + (length a - 1) }
unfolding pushed_all pushed
whole-pushed m n [] = fold-path refl (omega arith)
whole-pushed m n (t ∷ a) = begun-pushed m t n a ∙ fold-path refl (omega arith)

pub whole-stored : (m n : ℕ) (a out : List ℕ) → stored_all m (fresh n) a out ≡ sets out (2 + 3 * n) (gate_words (fold (2 * m + n) a))
unfolding stored_all pushed stored
whole-stored m n [] out = unfold gate_words in refl
whole-stored m n (t ∷ a) out = begun-stored m t n a out

-- one term, with and without one before it
pub push_begun : (m : ℕ) (f : Fold) (w : ℕ) (old out : List ℕ) {r k : ℕ} → f.running ≡ Some r → k ≡ 1 → out ≡ sets old (2 + 3 * f.gates) (k ∷ r ∷ w ∷ []) →
    Pushed m f old (w ∷ []) (record { running = Some (2 * m + f.gates); gates = f.gates + 1 }) out
unfolding pushed_all stored_all pushed stored
push_begun m f w old out {r} e one h = record { fold = rw e; words = rw e (h ∙ ap (λ k. sets old (2 + 3 * f.gates) (k ∷ r ∷ w ∷ [])) one) }

pub push-first : (m : ℕ) (f : Fold) (w : ℕ) (old : List ℕ) → f.running ≡ None → Pushed m f old (w ∷ []) (record { running = Some w; gates = f.gates }) old
unfolding pushed_all stored_all pushed stored
push-first m f w old e = record { fold = rw e; words = rw e }

-- no terms, and terms after terms
pub push-none : (m : ℕ) (f : Fold) (old : List ℕ) → Pushed m f old [] f old
unfolding pushed_all stored_all
push-none m f old = record { fold = refl; words = refl }

pub push-more : {m : ℕ} {f g h : Fold} {old mid out a b : List ℕ} → Pushed m f old a g mid → Pushed m g mid b h out → Pushed m f old (a ++ b) h out
push-more {m} {f} {g} {h} {old} {mid} {out} {a} {b} p q = record {
  fold = q.fold ∙ ap (λ z. pushed_all m z b) p.fold ∙ sym (pushed-append m f a b);
  words = q.words ∙ ap₂ (λ x y. stored_all m x b y) p.fold p.words ∙ sym (stored-append m f a b old);
}

pub push-most : {m : ℕ} {f g : Fold} {old out a : List ℕ} → Pushed m f old a g out → g.gates ≤ f.gates + length a
push-most {m} {f} {g} {old} {out} {a} p = rw p.fold (pushed_most m f a)

pub push-only : {m : ℕ} {f g : Fold} {old out : List ℕ} {b : Bool} {w v : ℕ} → b ≡ true → v ≡ w → Pushed m f old (v ∷ []) g out → Pushed m f old (only b w) g out
unfolding only
push-only e h p = rw (e, ← h) p

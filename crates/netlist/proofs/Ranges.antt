-- The numbers below a bound, as an iterator over a range gives them: a test of all of them, and how many pass it.
use mathlib.Core.Path.{◌≡◌, refl, ap, ◌∙◌}
use mathlib.Core.Bool.{Bool, true, false, ◌&&◌}
use Prim.Native.Nat.{ℕ, zero, suc, ◌+◌, ◌≤◌}
use native.Mathlib.Omega.{arith}
use Rattle.std.specs.Fn.{Called}
use Rattle.std.specs.Iterator.{ChecksAll}
use Rattle.std.specs.declared.ops.Range.{Range}
use Rattle.std.proofs.iter.Yields.{nat_range_steps}
use Rattle.std.proofs.lemmas.Iterator.{YieldsList-from_range}
use Rattle.std.proofs.lemmas.Iterator.Search.{all_from_yields_List}
use denote.Param.Members.{Mut}
use Rattle.std.specs.List.{range_with_len, fold, count_by, list_all}
use Rattle.std.proofs.lemmas.List.Sums.{count_by-le-length}
use Rattle.std.proofs.lemmas.List.FromFn.{length-range_with_len}
use Rattle.gf2.specs.Sums.{sum, every}
use Rattle.gf2.proofs.Counts.{num}

-- the last number j of a range
sum-last : (g : ℕ → ℕ) (z a n j : ℕ) → a + n ≡ j → fold (λ s x. s + g x) z (range_with_len a (suc n)) ≡ fold (λ s x. s + g x) z (range_with_len a n) + g j
sum-last g z a zero j e = let k : j ≡ a = omega arith in rw k
sum-last g z a (suc n) j e = sum-last g (z + g a) (a + 1) n j (omega arith)

and-assoc : (a b c : Bool) → (a && (b && c)) ≡ ((a && b) && c)
and-assoc true b c = refl
and-assoc false b c = refl

and-true : (a : Bool) → (a && true) ≡ a
and-true true = refl
and-true false = refl

all-last : (p : ℕ → Bool) (a n j : ℕ) → a + n ≡ j → list_all p (range_with_len a (suc n)) ≡ (list_all p (range_with_len a n) && p j)
all-last p a zero j e = let k : j ≡ a = omega arith in rw k (and-true (p a))
all-last p a (suc n) j e =
    ap (λ b. p a && b) (all-last p (a + 1) n j (omega arith)) ∙ and-assoc (p a) (list_all p (range_with_len (a + 1) n)) (p j)

pub counted_below : (p : ℕ → Bool) (n : ℕ) → count_by p (range_with_len 0 n) ≡ sum n (λ d. num (p d))
unfolding sum
counted_below p zero = refl
counted_below p (suc n) = sum-last (λ d. num (p d)) 0 0 n n (omega arith) ∙ ap (λ k. k + num (p n)) (counted_below p n)

pub few_below : (p : ℕ → Bool) (n : ℕ) → count_by p (range_with_len 0 n) ≤ n
few_below p n = omega (arith, count_by-le-length p (range_with_len 0 n), length-range_with_len 0 n)

all_below : (p : ℕ → Bool) (n : ℕ) → list_all p (range_with_len 0 n) ≡ every n p
unfolding every
all_below p zero = refl
all_below p (suc n) = all-last p 0 n n (omega arith) ∙ ap (λ b. b && p n) (all_below p n)

-- `all` over them, with a closure that computes a test
pub every-from_all : {F : Type 0} {g : Mut F (ℕ × Unit {0}) Bool} (test : ℕ → Bool) (n : ℕ) (u : Range ℕ) (f : F) (r : Bool) →
    ChecksAll nat_range_steps g (record { start = 0; end = n }) f r u → ((x : ℕ) (b : Bool) (q : F) → Called g f (x, tt) b q → (q ≡ f) × (b ≡ test x)) → r ≡ every n test
every-from_all test n u f r ran closure = all_from_yields_List test u f r ran (YieldsList-from_range 0 n n refl (omega arith)) closure ∙ all_below test n

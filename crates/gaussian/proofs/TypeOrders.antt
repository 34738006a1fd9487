-- The two orders in which a type is chosen, X9.62's and the least: each chooses one type; where the first isn't the least.
use mathlib.Core.Path.{◌≡◌, sym, ◌∙◌, subst}
use mathlib.Core.Logic.{◌↔◌, inl, inr}
use mathlib.Core.Bool.{Bool, true, false}
use mathlib.Core.List.{List, [], ◌∷◌}
use Prim.Native.Nat.{ℕ, zero, suc, ◌+◌, ◌-◌, ◌<◌, ◌≤◌}
use native.Mathlib.Decide.{dec_lt}
use native.Mathlib.Omega.{arith}
use lib.Dec.{T, eqb, eqb→eq, eqb_refl, lit<}
use Rattle.gf2.specs.Operands.{max_width}
use Rattle.gaussian.specs.Types.{IsType, LeastType, AnsiType, types}
use Rattle.gaussian.specs.Statements.{Among, both_types}
use Rattle.gaussian.proofs.Entries.{both, both-parts, at}
use Rattle.gaussian.proofs.TypeTests.{is_type, no_type, among, one_missing, has_both}
use Rattle.gaussian.proofs.Soundness.{else, cases, type, no-type, zero-type}

module _ (m : ℕ) where
  pub ansi-is-type : (t : ℕ) → AnsiType m t → IsType m t
  ansi-is-type t (inl c) = rw c.1 c.0
  ansi-is-type t (inr (inl c)) = rw c.2 c.1
  ansi-is-type t (inr (inr c)) = c.2.0

  -- the least type is one alone; it is 1 where that is a type, and 2 where that is and 1 isn't
  least-only : (s t : ℕ) → LeastType m s → LeastType m t → s ≡ t
  least-only s t a b = elim (dec_lt s t) [
    | yes l ↦ absurd (b.1 s l a.0)
    | no l ↦ elim (dec_lt t s) [
      | yes r ↦ absurd (a.1 t r b.0)
      | no r ↦ omega arith
    ]
  ]

  one-least : IsType m 1 → LeastType m 1
  one-least one = (one, λ s h ty. let z : s ≡ 0 = omega arith in zero-type m (rw z at ty))

  pub ansi-only : (s t : ℕ) → AnsiType m s → AnsiType m t → s ≡ t
  ansi-only s t (inl a) (inl b) = a.1 ∙ sym b.1
  ansi-only s t (inl a) (inr (inl b)) = absurd (b.0 a.0)
  ansi-only s t (inl a) (inr (inr b)) = absurd (b.0 a.0)
  ansi-only s t (inr (inl a)) (inl b) = absurd (a.0 b.0)
  ansi-only s t (inr (inl a)) (inr (inl b)) = a.2 ∙ sym b.2
  ansi-only s t (inr (inl a)) (inr (inr b)) = absurd (b.1 a.1)
  ansi-only s t (inr (inr a)) (inl b) = absurd (a.0 b.0)
  ansi-only s t (inr (inr a)) (inr (inl b)) = absurd (a.1 b.1)
  ansi-only s t (inr (inr a)) (inr (inr b)) = least-only s t a.2 b.2

  two-least : IsType m 2 → ¬ IsType m 1 → LeastType m 2
  two-least two n = (two, none)
    where
      none : (s : ℕ) → s < 2 → ¬ IsType m s
      none zero h ty = zero-type m ty
      none (suc zero) h ty = n ty
      none (suc (suc s)) h ty = absurd (omega arith)

  pub same : (t : ℕ) → AnsiType m t → ¬ (IsType m 1 × IsType m 2) → LeastType m t
  same t (inl c) n = rw c.1 (two-least c.0 (λ one. n (one, c.0)))
  same t (inr (inl c)) n = rw c.2 (one-least c.1)
  same t (inr (inr c)) n = c.2

  pub other : (t : ℕ) → AnsiType m t → IsType m 1 × IsType m 2 → (t ≡ 2) × LeastType m 1
  other t (inl c) b = (c.1, one-least b.0)
  other t (inr (inl c)) b = absurd (c.0 b.1)
  other t (inr (inr c)) b = absurd (c.0 b.1)

-- a test of a list's members is passed by those alone
first : (a b : Bool) → T a → T (elim a [ true ↦ true | false ↦ b ])
first true b t = tt
first false b t = absurd t

second : (a b : Bool) → T b → T (elim a [ true ↦ true | false ↦ b ])
second true b t = tt
second false b t = t

among-sound : (x : ℕ) (ys : List ℕ) → T (among x ys) → Among x ys
among-sound x [] t = t
among-sound x (y ∷ ys) t = elim (else (eqb x y) (among x ys) t) [
  | inl e ↦ inl (eqb→eq x y e)
  | inr h ↦ inr (among-sound x ys h)
]

among-passes : (x : ℕ) (ys : List ℕ) → Among x ys → T (among x ys)
among-passes x [] h = h
among-passes x (y ∷ ys) (inl e) = first (eqb x y) (among x ys) (rw e (eqb_refl y))
among-passes x (y ∷ ys) (inr h) = second (eqb x y) (among x ys) (among-passes x ys h)

-- a width that passes the test, and all of them
module _ (m : ℕ) (pos : 0 < m) where
  missing : T (one_missing m) → ¬ (IsType m 1 × IsType m 2)
  missing s b = elim (else (no_type m 1) (no_type m 2) s) [
    | inl n ↦ no-type m 1 pos n b.0
    | inr n ↦ no-type m 2 pos n b.1
  ]

  both_at : T (has_both m) → (IsType m 1 × IsType m 2) ↔ Among m both_types
  both_at t = elim (cases (among m both_types) (both (is_type m 1) (is_type m 2)) (one_missing m) t) [
    | inl q ↦
        let r = both-parts (is_type m 1) (is_type m 2) q.1 in
        (λ b. among-sound m both_types q.0, λ a. (type m 1 pos (lit< tt) r.0, type m 2 pos (lit< tt) r.1))
    | inr q ↦ (λ b. absurd (missing q.1 b), λ a. absurd (q.0 (among-passes m both_types a)))
  ]

pub both-types : (m : ℕ) → 2 ≤ m → m ≤ max_width → (IsType m 1 × IsType m 2) ↔ Among m both_types
both-types m h h' = both_at m (omega arith) (subst (λ (y : ℕ). T (has_both y)) back (at (λ k x. has_both (k + 2)) types tt (m - 2) (omega arith)))
  where
    back : m - 2 + 2 ≡ m
    back = omega arith

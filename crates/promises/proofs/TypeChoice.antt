-- ANSI X9.62's choice of type: the laws of crate gaussian, told of the calls.
use Rattle.std.specs.Prelude.{Ok, Err}
use mathlib.Core.Path.{◌≡◌, refl, sym, ap, ◌∙◌}
use mathlib.Core.Logic.{◌↔◌, inl, inr}
use mathlib.Core.List.{List, [], ◌∷◌}
use Prim.Native.Nat.{ℕ, ◌*◌, ◌∣◌, ◌≤◌}
use native.Mathlib.Omega.{arith}
use lib.Dec.{lit≤}
use lib.ListN.{length}
use Rattle.gf2.specs.Operands.{max_width, bytes_for}
use Rattle.gf2.proofs.Decisions.{equal-unless}
use Rattle.judging.specs.declared.fault.Fault.TheVariants.{Call}
use Rattle.judging.specs.declared.fault.CallFault.TheVariants.{NoType}
use Rattle.judging.specs.Causes.{judged}
use Rattle.judging.specs.FaultTable.{bad_width, bad_length}
use Rattle.gaussian.specs.Types.{LeastType, AnsiType, type_of}
use Rattle.gaussian.specs.Table.{drawn}
use Rattle.gaussian.specs.Causes.{type_zero, type_causes}
use Rattle.gaussian.specs.Calls.{draw_verdict, drawn_into}
use Rattle.gaussian.specs.Statements.{Among, both_types}
use Rattle.gaussian.proofs.Theorems.{type-list, type-orders}
use Rattle.promises.specs.TypeChoice.{TypeChoice}
use Rattle.promises.proofs.CauseLaws.{last-first, wide}
use Rattle.promises.proofs.Demand1.{demand1}

-- the four widths are widths of the list
among-width : (m : ℕ) → Among m both_types → (2 ≤ m) × (m ≤ max_width)
among-width m (inl e) = (omega arith, omega arith)
among-width m (inr (inl e)) = (omega arith, omega arith)
among-width m (inr (inr (inl e))) = (omega arith, omega arith)
among-width m (inr (inr (inr (inl e)))) = (omega arith, omega arith)
among-width m (inr (inr (inr (inr n)))) = absurd n

module _ (m : ℕ) where
  chosen : judged (type_causes m) ≡ Ok tt → AnsiType m (type_of m)
  chosen e =
      let no = (demand1.typed m).exact.none.0 e in
      let w = wide no.0 in
      (type-list m w.0 w.1).chosen no.1.0

  same : judged (type_causes m) ≡ Ok tt → ¬ Among m both_types → LeastType m (type_of m)
  same e n =
      let w = wide ((demand1.typed m).exact.none.0 e).0 in
      type-orders.same m (type_of m) (chosen e) (λ b. n ((type-orders.both m w.0 w.1).0 b))

  other : Among m both_types → (type_of m ≡ 2) × LeastType m 1
  other a =
      let w = among-width m a in
      let b = (type-orders.both m w.0 w.1).1 a in
      let l = type-list m w.0 w.1 in
      type-orders.other m (type_of m) (l.chosen (λ z. l.never (l.none.0 z) 1 b.0)) b

  eight : 2 ≤ m → m ≤ max_width → (type_of m ≡ 0) ↔ (8 ∣ m)
  eight l h = (type-list m l h).none

  -- 17 is the last cause of both calls
  seventeen : (judged (type_causes m) ≡ Err (Call NoType)) ↔ ((2 ≤ m) × (m ≤ max_width) × (8 ∣ m))
  seventeen =
      let given = (demand1.typed m).exact.given (Call NoType) in
      let last = last-first (bad_width m ∷ []) (type_zero m) (λ e. omega arith, tt) in (
        λ e. let q = last.0 (given.0 e) in let w = wide q.0.0 in (w.0, w.1, (eight w.0 w.1).0 q.1),
        λ h. given.1 (last.1 ((λ b. b (h.0, h.1), tt), (eight h.0 h.1).1 h.2)),
      )

  draw_seventeen : (old : List ℕ) → (draw_verdict m (length old) ≡ Err (Call NoType)) ↔ ((2 ≤ m) × (m ≤ max_width) × (length old ≡ m * bytes_for m) × (8 ∣ m))
  draw_seventeen old =
      let given = (demand1.draw m old).exact.given (Call NoType) in
      let last = last-first (bad_width m ∷ bad_length (length old) (m * bytes_for m) ∷ []) (type_zero m) (λ e. omega arith, (λ e. omega arith, tt)) in (
        λ e.
            let q = last.0 (given.0 e) in
            let w = wide q.0.0 in
            (w.0, w.1, equal-unless _ _ q.0.1.0, (eight w.0 w.1).0 q.1),
        λ h. given.1 (last.1 ((λ b. b (h.0, h.1), (λ n. n h.2, tt)), (eight h.0 h.1).1 h.3)),
      )

-- a width and a type T that is the list's
draws : (m t : ℕ) → 2 ≤ m → m ≤ max_width → type_of m ≡ t → ¬ (t ≡ 0) → (old : List ℕ) → length old ≡ m * bytes_for m →
    (draw_verdict m (length old) ≡ Ok tt) × (drawn_into m old ≡ drawn m t)
draws m t l h e n old size =
    let call = demand1.draw m old in
    let none = call.exact.none.1 (λ b. b (l, h), (λ u. u size, (λ z. n (sym e ∙ z), tt))) in
    (none, call.buffer.written none ∙ ap (drawn m) e)

pub type-choice : TypeChoice
unfolding type_of
type-choice = record {
  chosen = chosen;
  only = λ m t e a. type-orders.only m t (type_of m) a (chosen m e);
  same = same;
  other = other;
  both18 = (type-orders.both 18 (lit≤ tt) (lit≤ tt)).1 (inr (inl refl));
  type18 = refl;
  draws18 = draws 18 2 (lit≤ tt) (lit≤ tt) refl (λ z. omega (arith, z));
  draws2 = λ old size. let d = draws 2 2 (lit≤ tt) (lit≤ tt) refl (λ z. omega (arith, z)) old size in (d.0, d.1 ∙ sym type-orders.table2);
  seventeen = seventeen;
  draw_seventeen = draw_seventeen;
}

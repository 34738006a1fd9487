-- Laws of answers and of lent buffers, by their verdict.
-- value-refuses, value-answers: what comes out of a packed number. bare, valued, counted: a call's answer, by its verdict and its values.
use Rattle.std.specs.Prelude.{Result, Ok, Err, is_ok}
use mathlib.Core.Path.{◌≡◌, refl, sym, ap, subst}
use mathlib.Core.List.{List}
use Prim.Native.Nat.{ℕ}
use native.Mathlib.Omega.{arith}
use Rattle.gf2.specs.Operands.{choose}
use Rattle.judging.specs.declared.fault.Fault.{Fault}
use Rattle.judging.specs.Causes.{Cause, Verdict, judged, answered}
use Rattle.judging.proofs.CauseLaws.{exact, ok_or_err}
use Rattle.netlist.specs.Gates.{Netlist, and_gates, xor_gates}
use Rattle.netlist.specs.Calls.{counts_of}
use Rattle.nb.specs.Packing.{packed_verdict, packed_value, packed_counts, PacksVerdict, PacksValue, PacksCounts, Unpacks}
use Rattle.nb.proofs.PackLaws.{unpack, unpack-refused}
use Rattle.promises.specs.Answers.{Refuses, Numbered, Lent, Asks, Fills}

-- a packed number, and what comes out of it
module _ {r : Result ℕ Fault} (p : PacksValue r) where
  pub value-refuses : {f : Fault} → r ≡ Err f → Refuses (packed_value r) f
  value-refuses {f} e = subst (λ r. Refuses (packed_value r) f) (sym e) (unpack-refused f (subst PacksValue e p))

  pub value-answers : {x : ℕ} → r ≡ Ok x → Unpacks (packed_value r) 0 x 0
  value-answers {x} e = subst (λ r. Unpacks (packed_value r) 0 x 0) (sym e) (unpack 0 x 0 (omega arith) (subst PacksValue e p))

module _ (v : Verdict) where
  -- an answer with no value, with a number, and with the gates of a list
  pub bare : PacksVerdict v → Numbered v (packed_verdict v) 0 0
  bare p = record {
    refused = λ f e. subst (λ v. Refuses (packed_verdict v) f) (sym e) (unpack-refused f (subst PacksVerdict e p));
    answered = λ e. subst (λ v. Unpacks (packed_verdict v) 0 0 0) (sym e) (unpack 0 0 0 (omega arith) (omega arith));
  }

  pub valued : (x : ℕ) → PacksValue (answered v x) → Numbered v (packed_value (answered v x)) x 0
  unfolding answered
  valued x p = record { refused = λ f e. value-refuses p (ap (λ v. answered v x) e); answered = λ e. value-answers p (ap (λ v. answered v x) e) }

  pub counted : (list : Netlist) → PacksCounts (answered v (counts_of list)) →
      Numbered v (packed_counts (answered v (counts_of list))) (and_gates list.gates) (xor_gates list.gates)
  unfolding answered
  counted list p = record {
    refused = λ f e.
        let q = ap (λ v. answered v (counts_of list)) e in
        subst (λ r. Refuses (packed_counts r) f) (sym q) (unpack-refused f (subst PacksCounts q p));
    answered = λ e.
        let q = ap (λ v. answered v (counts_of list)) e in
        subst (λ r. Unpacks (packed_counts r) 0 (and_gates list.gates) (xor_gates list.gates)) (sym q)
        (unpack 0 (and_gates list.gates) (xor_gates list.gates) (omega arith) (subst PacksCounts q p).0);
  }

pub lent : (v : Verdict) (old result : List ℕ) → Lent v (choose (is_ok v) result old) old result
lent (Ok _) old result = record { kept = λ f e. ok_or_err (sym e); written = λ e. refl }
lent (Err g) old result = record { kept = λ f e. refl; written = λ e. ok_or_err e }

module _ (cs : List Cause) {answer first second : ℕ} (number : Numbered (judged cs) answer first second) where
  pub asks : Asks cs answer first second
  asks = record { exact = exact cs; number = number }

  pub fills : (old result : List ℕ) → Fills cs answer first second (choose (is_ok (judged cs)) result old) old result
  fills old result = record { exact = exact cs; number = number; buffer = lent (judged cs) old result }

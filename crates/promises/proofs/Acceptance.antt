-- Which gate lists are accepted: the theorem of crate equivalence, told of nb_run and nb_product.
use Rattle.std.specs.Prelude.{Ok}
use mathlib.Core.Path.{◌≡◌, sym, ◌∙◌}
use mathlib.Core.List.{List, [], ◌∷◌}
use Prim.Native.Nat.{ℕ, ◌+◌, ◌*◌}
use native.Mathlib.Omega.{arith}
use lib.ListN.{length, replicate, length-replicate}
use borrow.Author.Tests.{le-ltb}
use Rattle.gf2.specs.Operands.{bytes_for}
use Rattle.gf2.specs.Products.{product}
use Rattle.gf2.specs.Field.{Op}
use Rattle.judging.specs.Causes.{judged}
use Rattle.judging.specs.FaultTable.{bad_width, not_w}
use Rattle.judging.proofs.CauseLaws.{Fine, none-given}
use Rattle.judging.proofs.Searches.{fine-append}
use Rattle.judging.proofs.Passed.{width-passes, length-passes, operand-passes}
use Rattle.table.specs.Judgements.{symmetry_verdict}
use Rattle.table.proofs.Theorems.{symmetry}
use Rattle.product.specs.Calls.{product_into}
use Rattle.netlist.specs.Running.{gate_count, read_list, result}
use Rattle.runner.specs.Causes.{run_bytes_causes}
use Rattle.runner.specs.Inner.{word_causes, bit_causes, list_causes}
use Rattle.runner.proofs.JudgeLaws.{gates-pass}
use Rattle.equivalence.specs.Statements.{Comparable, GivesProduct}
use Rattle.equivalence.proofs.AcceptLaws.{comparable-ready}
use Rattle.equivalence.proofs.Theorems.{theorem_accepts, theorem_own_lists}
use Rattle.nb.specs.Calls.{ran_result}
use Rattle.promises.specs.Acceptance.{RunsToAllProducts, Acceptance}
use Rattle.promises.proofs.NoFaults.{Passed, product-none}

module _ (m : ℕ) (table list : List ℕ) (none : symmetry_verdict m table ≡ Ok tt) (c : Comparable m list) where
  passed : Passed m table
  passed = record { shaped = ((symmetry m table).0 none).0; symmetry = none }

  run_none : (a b old lent : List ℕ) → Op m a → Op m b → length old ≡ bytes_for m → length lent ≡ 2 * m + gate_count list → judged (run_bytes_causes m list a b old lent) ≡ Ok tt
  run_none a b old lent x y room size =
      let s = passed.shaped in
      let r = comparable-ready m list c in
      let sizes : Fine (bad_width m ∷ not_w m a ∷ not_w m b ∷ not_w m old ∷ []) = (width-passes m (record { least = s.least; greatest = s.greatest }), (length-passes _ _ x.size, (length-passes _ _ y.size, (length-passes _ _ room, tt)))) in
      let words : Fine (word_causes m list (length lent)) = (le-ltb (length list) 2 (omega (arith, c.size)), (length-passes _ _ c.width, (length-passes _ _ c.size, (length-passes _ _ size, tt)))) in
      let bits : Fine (bit_causes m list a b) = (operand-passes m a x, (operand-passes m b y, (gates-pass m list r.gates r.outputs, tt))) in
      none-given (run_bytes_causes m list a b old lent)
      (fine-append (bad_width m ∷ not_w m a ∷ not_w m b ∷ not_w m old ∷ []) (list_causes m list a b (length lent)) sizes (fine-append (word_causes m list (length lent)) (bit_causes m list a b) words bits))

  -- what nb_run and nb_product leave, where neither gives a fault
  ran : (a b old lent : List ℕ) → judged (run_bytes_causes m list a b old lent) ≡ Ok tt → ran_result m list a b old lent ≡ result (bytes_for m) m (read_list list m) a b
  ran a b old lent n = rw n

  made : (a b old : List ℕ) → Op m a → Op m b → length old ≡ bytes_for m → product_into m table a b old ≡ product m table a b
  made a b old x y room = rw (product-none passed a b old x y room)

  gives : GivesProduct m table list → RunsToAllProducts m table list
  gives h a b old lent x y room size =
      let n = run_none a b old lent x y room size in
      record { no_fault = n; value = ran a b old lent n ∙ h a b x y ∙ sym (made a b old x y room) }

  given : RunsToAllProducts m table list → GivesProduct m table list
  given h a b x y =
      let lent : List ℕ = replicate (2 * m + gate_count list) 0 in
      let r = h a b a lent x y x.size (length-replicate (2 * m + gate_count list) 0) in
      sym (ran a b a lent r.no_fault) ∙ r.value ∙ made a b a x y x.size

pub acceptance : Acceptance
acceptance = record {
  exactly = λ m table list none c.
      let t = theorem_accepts m table list none c in
      (λ e. gives m table list none c (t.0 e), λ h. t.1 (given m table list none c h));
  own = theorem_own_lists;
}

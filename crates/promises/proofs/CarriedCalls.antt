-- The calls on carried operands: each is exact by the law of any list of causes.
use Rattle.std.specs.Prelude.{Ok, Err}
use mathlib.Core.Path.{refl, sym, ap}
use mathlib.Core.List.{List, [], ◌∷◌}
use lib.ListN.{length}
use Rattle.judging.specs.Causes.{Cause, Verdict, judged, answered, Exact}
use Rattle.judging.specs.FaultTable.{bad_width}
use Rattle.judging.proofs.CauseLaws.{exact, same_fault, ok_or_err}
use Rattle.operand.specs.Causes.{operand_causes, pair_causes, solve_causes}
use Rattle.product.specs.Causes.{product_causes, reduced_causes, inverse_causes}
use Rattle.runner.specs.Causes.{run_causes}
use Rattle.promises.specs.CarriedCalls.{Answers, CarriedCalls}
use Rattle.promises.proofs.AnswerLaws.{lent}

-- an answer, by its verdict
answers_by : {A : Type 0} (cs : List Cause) (v : Verdict) (x : A) → Exact cs v → Answers cs (answered v x) x
unfolding answered
answers_by cs (Ok _) x e = record { exact = e; refused = λ f q. ok_or_err (sym q); answered = λ q. refl }
answers_by cs (Err g) x e = record { exact = e; refused = λ f q. ap Err (same_fault (Err g) refl q); answered = λ q. ok_or_err q }

answers : {A : Type 0} (cs : List Cause) (x : A) → Answers cs (answered (judged cs) x) x
answers cs x = answers_by cs (judged cs) x (exact cs)

pub carried-calls : CarriedCalls
carried-calls = record {
  zero = λ m. answers (bad_width m ∷ []) _;
  one = λ m. answers (bad_width m ∷ []) _;
  turn = λ a k. answers (operand_causes a) _;
  square = λ a. answers (operand_causes a) _;
  sum = λ a b. answers (pair_causes a b) _;
  trace = λ a. answers (operand_causes a) _;
  solve = λ c. answers (solve_causes c) _;
  product = λ m t a b. answers (product_causes m t a b) _;
  reduced = λ m t a b. answers (reduced_causes m t a b) _;
  inverse = λ m t a. answers (inverse_causes m t a) _;
  run = λ m list a b result wires.
      let cs = run_causes m list a b (length result) (length wires) in
      record { exact = exact cs; results = lent (judged cs) result _; values = lent (judged cs) wires _ };
}

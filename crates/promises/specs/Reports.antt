-- Demand 1 for the report program: what it prints for the bytes of its standard input.
use Rattle.std.specs.Prelude.{◌≡◌, List, [], ◌∷◌, ◌++◌, ℕ, ◌<◌, ◌≤◌, length}
use Rattle.gf2.specs.Tables.{ones_in}
use Rattle.judging.specs.declared.fault.Fault.{Fault}
use Rattle.judging.specs.declared.fault.Fault.TheVariants.{Length}
use Rattle.netlist.specs.Gates.{Netlist, and_gates, xor_gates}
use Rattle.netlist.specs.Lists.{plain, reduced, common}
use Rattle.reporting.specs.Text.{ascii, line}
use Rattle.reporting.specs.Report.{input_limit, lent, refusal, report}
use Rattle.judging.specs.Causes.{First, NoCause}
use Rattle.judging.specs.FaultTable.{check_causes}
use Rattle.promises.specs.CardCauses.{BadCard, GoodCard}

-- "m; C"
abbrev pub head : ℕ → List ℕ → List ℕ
head m table = line (ascii "width") (m ∷ []) ++ line (ascii "ones") (ones_in m table ∷ [])

-- "AND then XOR counts"
abbrev pub gates : List ℕ → Netlist → List ℕ
gates word list = line word (and_gates list.gates ∷ xor_gates list.gates ∷ [])

-- what is printed for the bytes s
pub record Reports (s : List ℕ) : Type 0 where
  -- "Input above 65,536 bytes prints `refused 2`"
  pub too_long : input_limit < length s → report s ≡ refusal Length
  -- "A card fault prints only `refused` and the number"
  pub bad_card : length s ≤ input_limit → (f : Fault) → BadCard lent s f → report s ≡ refusal f
  -- "a check fault the first two lines and then that"
  pub refused : length s ≤ input_limit → (m : ℕ) (table : List ℕ) → GoodCard lent s m table →
      (f : Fault) → First (check_causes m table) f → report s ≡ head m table ++ refusal f
  -- "m; C; verdict; AND then XOR counts"
  pub accepted : length s ≤ input_limit → (m : ℕ) (table : List ℕ) → GoodCard lent s m table → NoCause (check_causes m table) →
      report s ≡ head m table ++ (line (ascii "accepted") [] ++ (gates (ascii "plain") (plain m table)
      ++ (gates (ascii "reduced") (reduced m table) ++ gates (ascii "common") (common m table))))

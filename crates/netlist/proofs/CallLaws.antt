-- Laws of the counts: the numbers of all gates, and the answers of the calls.
use mathlib.Core.Path.{◌≡◌, refl, sym, ap, ◌∙◌}
use mathlib.Core.List.{List}
use Prim.Native.Nat.{ℕ, zero, suc, ◌+◌, ◌-◌, ◌*◌, ◌/◌, ◌≤◌}
use native.Mathlib.Nat.{mul-add, mul-pos}
use native.Mathlib.Omega.{arith}
use lib.ListN.{length}
use Rattle.gf2.specs.Tables.{IsTable, ones_in}
use Rattle.gf2.specs.Check.{Symmetric}
use Rattle.judging.specs.Causes.{Cause, judged, answered}
use Rattle.judging.proofs.CauseLaws.{Fine, none-given, answer-given}
use Rattle.table.specs.Rows.{Shaped}
use Rattle.netlist.specs.declared.counts.Method.{Method}
use Rattle.netlist.specs.declared.counts.Method.TheVariants.{Plain, Reduced, Common}
use Rattle.netlist.specs.Lists.{plain, reduced, sharing, common, if_none, full_rows}
use Rattle.netlist.specs.Counts.{plain_gates, reduced_gates, common_gates}
use Rattle.netlist.specs.Inner.{Countable}
use Rattle.netlist.specs.Calls.{both, counted_as}
use Rattle.netlist.specs.Methods.{list_by, shared_by, xors_by, gates_by, tallied}
use Rattle.netlist.specs.Statements.{Sized}
use Rattle.netlist.proofs.SizeLaws.{ones-most, plain-sized, reduced-sized, common-sized}
use Rattle.netlist.proofs.ListLaws.{Gates, ones-positive, shared-ones, plain-gates, reduced-gates, sharing-gates, common-gates}

-- an answer that is given
pub answer-counted : (cs : List Cause) (a x : ℕ) → Fine cs → answered (judged cs) (both a x) ≡ counted_as a x
answer-counted cs a x e = sym (answer-given (both a x) (none-given cs e))

-- the second where there is one
pub if_some : {A : Type 0} (q : ℕ) (x y : A) → (q ≡ 0 → ⊥) → y ≡ if_none q x y
if_some zero x y h = absurd (h refl)
if_some (suc q) x y h = refl

-- the number of all gates
module _ (m : ℕ) (table : List ℕ) (two : 2 ≤ m) (is : IsTable m table) (s : Symmetric m table) where
  pub plain-number : plain_gates m (ones_in m table) ≡ length (plain m table).gates
  plain-number =
      let e : m + ones_in m table - 1 ≡ m + (ones_in m table - 1) = omega (arith, ones-positive m table two is s) in
      ap (λ k. m * k) e ∙ mul-add m m (ones_in m table - 1) ∙ sym (plain-gates m table two is s).all

  reduced-number : reduced_gates m (ones_in m table) ≡ length (reduced m table).gates
  reduced-number =
      let y = ones_in m table + m - 2 in
      let e : 3 * m + ones_in m table - 2 ≡ m + (m + y) = omega (arith, ones-positive m table two is s) in
      ap (λ k. m * k / 2) e ∙ half y ∙ sym (reduced-gates m table two is s).all
    where
      half : (y : ℕ) → m * (m + (m + y)) / 2 ≡ m * m + m * y / 2
      half y = omega (arith, mul-add m m (m + y), mul-add m m y)

  sharing-number : (q : ℕ) → full_rows m table ≡ suc q → m * (m + ones_in m table - m * suc q) + m * suc q - 1 ≡ length (sharing m table).gates
  sharing-number q f =
      let o = rw f at (shared-ones m table two is s) in
      let e : m + ones_in m table - m * suc q ≡ m + (ones_in m table - m * suc q) = omega (arith, o) in
      ap (λ k. m * k + m * suc q - 1) e
      ∙ omega (arith, mul-add m m (ones_in m table - m * suc q), mul-pos {m = m} {n = suc q} (omega arith) (omega arith), rw f at (sharing-gates m table two is s).all)

  common-number : common_gates m (ones_in m table) (full_rows m table) ≡ length (common m table).gates
  unfolding common
  common-number = go (full_rows m table) refl
    where
      go : (q : ℕ) → full_rows m table ≡ q → common_gates m (ones_in m table) q ≡ length (if_none q (plain m table) (sharing m table)).gates
      go zero f = plain-number
      go (suc q) f = sharing-number q f

  pub number_by : (method : Method) → gates_by method m (ones_in m table) (shared_by method m table) ≡ length (list_by method m table).gates
  number_by Plain = plain-number
  number_by Reduced = reduced-number
  number_by Common = common-number

  pub gates-by : (method : Method) → Gates (list_by method m table) (m * m) (xors_by method m (ones_in m table) (shared_by method m table))
  gates-by Plain = plain-gates m table two is s
  gates-by Reduced = reduced-gates m table two is s
  gates-by Common = common-gates m table two is s

  pub sized-by : (method : Method) → Sized m (list_by method m table)
  sized-by Plain = plain-sized m table two is s
  sized-by Reduced = reduced-sized m table two is s
  sized-by Common = common-sized m table two is s

  pub shared-few : (method : Method) → m * shared_by method m table ≤ ones_in m table
  shared-few Plain = omega arith
  shared-few Reduced = omega arith
  shared-few Common = shared-ones m table two is s

-- what is told of the numbers counted
pub countable : {m : ℕ} {table : List ℕ} {ones : ℕ} (method : Method) → Shaped m table → Symmetric m table → ones ≡ ones_in m table → Countable m ones (shared_by method m table)
countable {m} {table} method h s e = record {
  least = h.least;
  greatest = h.greatest;
  some = rw e (ones-positive m table h.least h.is_table s);
  most = rw e (ones-most m table);
  shared = rw e (shared-few m table h.least h.is_table s method);
}

-- the numbers of a list, from its gates
pub tally-counted : (method : Method) (m : ℕ) (table : List ℕ) {a y x g k : ℕ} → Gates (list_by method m table) a y → x ≡ y → g ≡ length (list_by method m table).gates → k ≡ shared_by method m table →
    record { counts = both a x; gates = g; full = k } ≡ tallied method m table
tally-counted method m table h e l k = rw (h.ands, h.xors, e, l, k)

-- The bounds of the list of types: its greatest type, by a computed test over all of its entries; its moduli, which fit.
use mathlib.Core.Bool.{Bool}
use Prim.Native.Nat.{ℕ, ◌-◌, ◌≤◌, ◌<◌}
use native.Mathlib.Nat.{lt_of_le_of_lt, mul-le-mul}
use native.Mathlib.Omega.{arith}
use lib.Dec.{leb, leb→le, lit<}
use lib.ListN.{get_or}
use Rattle.gf2.specs.Operands.{max_width}
use Rattle.gaussian.specs.Types.{modulus, types, type_of, max_type}
use Rattle.gaussian.specs.Inner.{residues}
use Rattle.gaussian.specs.Statements.{ModulusFits}
use Rattle.gaussian.proofs.Entries.{at}

abbrev small : ℕ → ℕ → Bool
small k x = leb x max_type

pub type-small : (m : ℕ) → 2 ≤ m → m ≤ max_width → type_of m ≤ max_type
unfolding type_of
type-small m h h' = leb→le (get_or types (m - 2) 0) max_type (at small types tt (m - 2) (omega arith))

-- a modulus of a width and a type within the bounds is below `residues`, and what is below that fits
pub modulus-small : {m t : ℕ} → t ≤ max_type → m ≤ max_width → modulus m t < residues
modulus-small ht hm = omega (arith, mul-le-mul ht hm)

pub modulus-fits : {p : ℕ} → p < residues → ModulusFits p
modulus-fits h = record { held = omega arith; multiplied = lt_of_le_of_lt (mul-le-mul {n₂ = residues} {m₂ = residues} (omega arith) (omega arith)) (lit< tt) }

-- What the calls judge: their causes, in document 01's order.
use Rattle.std.specs.Prelude.{◌≡◌, refl, List, [], ◌∷◌, ℕ, ◌*◌, eqb}
use Rattle.gf2.specs.Operands.{bytes_for}
use Rattle.gf2.proofs.Decisions.{equal-decides}
use Rattle.judging.specs.declared.fault.Fault.TheVariants.{Call}
use Rattle.judging.specs.declared.fault.CallFault.TheVariants.{NoType}
use Rattle.judging.specs.Causes.{Cause}
use Rattle.judging.specs.FaultTable.{bad_width, bad_length}
use Rattle.gaussian.specs.Types.{type_of}

-- 17: "type 0"
abbrev pub type_zero : ℕ → Cause
type_zero m =
    record { Holds = type_of m ≡ 0; test = eqb (type_of m) 0; exact = equal-decides (type_of m) 0; fault = Call NoType; numbered = refl }

-- the type of a width
abbrev pub type_causes : ℕ → List Cause
type_causes m = bad_width m ∷ type_zero m ∷ []

-- drawing into a buffer of this length: "A drawn table is a result", so a length that isn't m·W is 2
abbrev pub draw_causes : ℕ → ℕ → List Cause
draw_causes m size = bad_width m ∷ bad_length size (m * bytes_for m) ∷ type_zero m ∷ []

-- `table::shaped::Table::plus_rows` meets its contract.
use mathlib.Core.Path.{◌≡◌}
use Prim.Native.Nat.{ℕ, ◌^◌, ◌<◌}
use Rattle.table.proofs.RowsAtOnes.{Within, with_rows}
use Rattle.table.proofs.shaped.Table.plus_rows.Given as goal

abbrev pub invariant-loop-rest : goal.invariant-loop-rest
invariant-loop-rest l =
    (l.rest < 2 ^ 64) × Within l.self.width l.rest l.from × ((s : ℕ) → s < l.self.width → with_rows l.self.width l.self.bytes.now l.from l.out l.rest s ≡ with_rows l.self.width l.self.bytes.now l.from l.initial.out l.limb s)

abbrev pub decreases-loop-rest : goal.decreases-loop-rest
decreases-loop-rest l = l.rest

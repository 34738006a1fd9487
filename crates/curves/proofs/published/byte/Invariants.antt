-- `curves::published::byte` meets its contract. The invariant: the byte has its first j bits.
use mathlib.Core.Path.{◌≡◌}
use mathlib.Core.List.{List}
use Prim.Native.Nat.{ℕ, ◌+◌, ◌*◌}
use Rattle.gf2.specs.Coordinates.{value}
use Rattle.curves.specs.Published.{digit_bit}
use Rattle.curves.proofs.published.byte.Given as goal

-- the bits of byte b
abbrev pub bits : List ℕ → ℕ → ℕ → ℕ → ℕ
bits digits start b j = digit_bit digits (start + (b * 8 + j))

abbrev pub invariant-loop-j : goal.invariant-loop-j
invariant-loop-j l = l.out ≡ value l.j (bits l.digits l.start l.b)

-- The two moves of which a turn is made, of any coordinates: where those at the width and above are 0 their sum is the turn.
use Rattle.std.specs.Prelude.{Bool, [], ◌∷◌, ℕ, ◌+◌, ◌-◌, ◌*◌, ◌%◌, leb, ltb}
use Rattle.gf2.specs.Coordinates.{value}
use Rattle.gf2.specs.Operands.{max_width, choose, below}
use Rattle.limbs.specs.Limbs.{reach, limb_coord, raised}

-- the coordinates in the limbs that a width is worked on in
abbrev pub kept : ℕ → (ℕ → ℕ) → ℕ → ℕ
kept m f = below (64 * reach m) f

-- f moved n up; or n down, where it is 0 from r on
abbrev pub moved : Bool → ℕ → ℕ → (ℕ → ℕ) → ℕ → ℕ
moved up r n f i = choose up (raised n f i) (below r f (i + n))

-- limb w of the limbs f, and the one before or after it, whose bits come to it where all are moved k modulo 64 up or down
abbrev pub pair_at : Bool → ℕ → (ℕ → ℕ) → ℕ → ℕ
pair_at up k f w = choose up (value 64 (λ j. limb_coord (raised 1 f w ∷ f w ∷ []) (64 - k % 64 + j))) (value 64 (λ j. limb_coord (f w ∷ f (w + 1) ∷ []) (k % 64 + j)))

-- the coordinates moved k up, and those moved m - k down, added as far as the width goes
unfoldable pub both_moves : ℕ → ℕ → (ℕ → ℕ) → ℕ → ℕ
both_moves m k f = below m (λ i. raised k (kept m f) i + kept m f (i + (m - k)))

-- the same by a count of any size, modulo m, where m is a width that is carried, else what was given
unfoldable pub rolled : ℕ → ℕ → (ℕ → ℕ) → ℕ → ℕ
rolled m k f = choose (leb m max_width) (choose (ltb 0 m) (both_moves m (k % m) f) f) f
